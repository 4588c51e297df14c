use Rattle.c_machine.proofs.Starts.{has_start}
use Rattle.c_machine.proofs.laws.has_start.Goals as goal

pub returns : goal.returns
returns c = λ p v. has_start p v
