use Rattle.machine_places.proofs.Whereabouts.{owns_places}
use Rattle.machine_places.proofs.laws.owns_places.Goals as goal

pub returns : goal.returns
returns c = λ p numbered. owns_places p numbered
