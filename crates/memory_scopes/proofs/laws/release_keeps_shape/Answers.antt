use Rattle.memory_scopes.proofs.Dying.{released_shape}
use Rattle.memory_scopes.proofs.laws.release_keeps_shape.Goals as goal

pub returns : goal.returns
returns g c = λ m slot objects slots i h. released_shape m slot objects slots i h
