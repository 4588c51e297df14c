use Rattle.c_machine.proofs.Accesses.{one_base_fits}
use Rattle.c_machine.proofs.laws.one_base_fits.Goals as goal

pub returns : goal.returns
returns c = λ p. one_base_fits p
