use Rattle.cell_instances.proofs.Sole.{single_sole}
use Rattle.cell_instances.proofs.laws.single_cells_are_sole.Goals as goal

pub returns : goal.returns
returns c = single_sole
