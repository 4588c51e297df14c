use Rattle.c_machine.proofs.Accesses.{stores_within}
use Rattle.c_machine.proofs.laws.stores_within.Goals as goal

pub returns : goal.returns
returns c = λ l. stores_within l
