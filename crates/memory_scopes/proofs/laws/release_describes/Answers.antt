use Rattle.memory_scopes.proofs.Dying.{released_describes}
use Rattle.memory_scopes.proofs.laws.release_describes.Goals as goal

pub returns : goal.returns
returns g c = λ world m slot objects held i d. released_describes (g.M.Concrete.allows world) m slot objects held i d
