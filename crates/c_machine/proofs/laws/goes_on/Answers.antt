use Rattle.c_machine.proofs.Going.{goes_on}
use Rattle.c_machine.proofs.laws.goes_on.Goals as goal

pub returns : goal.returns
returns c = λ p flows bare. goes_on p flows bare
