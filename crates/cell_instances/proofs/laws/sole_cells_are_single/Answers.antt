use Rattle.cell_instances.proofs.Sole.{sole_single}
use Rattle.cell_instances.proofs.laws.sole_cells_are_single.Goals as goal

pub returns : goal.returns
returns c = sole_single
