use Rattle.cell_contents.proofs.Reading.{sole_death}
use Rattle.cell_instances.proofs.laws.death_leaves_sole_cells.Goals as goal

pub returns : goal.returns
returns c = sole_death
