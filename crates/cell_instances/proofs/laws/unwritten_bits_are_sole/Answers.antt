use Rattle.cell_instances.proofs.Sole.{unwritten_sole}
use Rattle.cell_instances.proofs.laws.unwritten_bits_are_sole.Goals as goal

pub returns : goal.returns
returns c = unwritten_sole
