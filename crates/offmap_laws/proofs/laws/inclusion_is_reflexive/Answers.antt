use Rattle.cell_laws.proofs.Ordering.{included_refl}
use Rattle.offmap_laws.proofs.laws.inclusion_is_reflexive.Goals as goal

pub returns : goal.returns
returns g c = λ a f. included_refl g.C.Cells.ops g.C.Cells.fine g.met.C.Cells.order_laws a f
