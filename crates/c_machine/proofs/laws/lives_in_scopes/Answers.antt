use Rattle.c_machine.proofs.Scopes.{lives_in_scopes}
use Rattle.c_machine.proofs.laws.lives_in_scopes.Goals as goal

pub returns : goal.returns
returns c = λ p v. lives_in_scopes p v
