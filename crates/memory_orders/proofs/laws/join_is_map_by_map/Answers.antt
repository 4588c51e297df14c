use Rattle.memory_orders.proofs.Below.{made_map_at}
use Rattle.memory_orders.proofs.laws.join_is_map_by_map.Goals as goal

pub returns : goal.returns
returns g c = λ merge a b t x y u v e f w. made_map_at g.C.Cells.ops merge a b t x y u v e f w
