use Rattle.cell_instances.proofs.Again.{grown_keeps}
use Rattle.cell_instances.proofs.laws.widening_keeps_sole_cells.Goals as goal

pub returns : goal.returns
returns c = grown_keeps
