use Rattle.memory_orders.proofs.Below.{join_same}
use Rattle.memory_orders.proofs.laws.join_with_included.Goals as goal

pub returns : goal.returns
returns g c = λ a b t u v w f. join_same g.C.Cells.ops a b t u v w f
