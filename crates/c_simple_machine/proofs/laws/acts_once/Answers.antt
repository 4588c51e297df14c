use Rattle.c_simple_machine.proofs.Once.{once}
use Rattle.c_simple_machine.proofs.laws.acts_once.Goals as goal

pub returns : goal.returns
returns c = λ p l. once p l
