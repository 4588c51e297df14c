use Rattle.cell_instances.proofs.Sole.{singles_sole}
use Rattle.cell_instances.proofs.laws.single_maps_are_sole.Goals as goal

pub returns : goal.returns
returns c = singles_sole
