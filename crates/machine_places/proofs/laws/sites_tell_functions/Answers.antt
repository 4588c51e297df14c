use Rattle.machine_places.proofs.Telling.{sites_tell_functions}
use Rattle.machine_places.proofs.laws.sites_tell_functions.Goals as goal

pub returns : goal.returns
returns c = λ p own named. sites_tell_functions p own named
