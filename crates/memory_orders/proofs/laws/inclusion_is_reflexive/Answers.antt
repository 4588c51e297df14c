use Rattle.memory_orders.proofs.Below.{included_itself}
use Rattle.memory_orders.proofs.laws.inclusion_is_reflexive.Goals as goal

pub returns : goal.returns
returns g c = λ a m i. included_itself g.C.Cells.ops g.C.Cells.fine g.met.C.Cells.order_laws a m i
