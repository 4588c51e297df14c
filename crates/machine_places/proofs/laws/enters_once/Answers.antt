use Rattle.machine_places.proofs.Recursion.{enters_once}
use Rattle.machine_places.proofs.laws.enters_once.Goals as goal

pub returns : goal.returns
returns c = λ p ranked. enters_once p ranked
