use Rattle.c_machine.proofs.Determinism.{deterministic}
use Rattle.c_machine.proofs.laws.is_deterministic.Goals as goal

pub returns : goal.returns
returns c = λ p l. deterministic p l
