use Rattle.machine_places.proofs.Recursion.{is_ranked}
use Rattle.machine_places.proofs.laws.is_ranked.Goals as goal

pub returns : goal.returns
returns c = λ p acyclic named. is_ranked p acyclic named
