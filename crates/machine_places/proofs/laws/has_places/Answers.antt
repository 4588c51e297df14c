use Rattle.machine_places.proofs.Whereabouts.{has_places}
use Rattle.machine_places.proofs.laws.has_places.Goals as goal

pub returns : goal.returns
returns c = λ p. has_places p
