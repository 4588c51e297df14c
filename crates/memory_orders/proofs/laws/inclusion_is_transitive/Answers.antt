use Rattle.memory_orders.proofs.Below.{included_next}
use Rattle.memory_orders.proofs.laws.inclusion_is_transitive.Goals as goal

pub returns : goal.returns
returns g c = λ a b d m i j l f h. included_next g.C.Cells.ops g.C.Cells.fine g.met.C.Cells.order_laws a b d m i j l f h
