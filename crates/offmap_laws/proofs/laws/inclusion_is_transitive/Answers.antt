use Rattle.cell_laws.proofs.Ordering.{included_trans}
use Rattle.offmap_laws.proofs.laws.inclusion_is_transitive.Goals as goal

pub returns : goal.returns
returns g c = λ a b d fa fb fd w v h i. included_trans g.C.Cells.ops g.C.Cells.fine g.met.C.Cells.order_laws a b d fa fb fd w v h i
