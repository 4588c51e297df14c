use Rattle.c_machine.proofs.Accesses.{loads_stored}
use Rattle.c_machine.proofs.laws.loads_stored.Goals as goal

pub returns : goal.returns
returns c = λ l. loads_stored l
