use Rattle.cell_laws.proofs.Joins.{joined_left}
use Rattle.offmap_laws.proofs.laws.join_includes_first.Goals as goal

pub returns : goal.returns
returns g c = λ merge a b m f h w. joined_left g.C.Cells.ops g.C.Cells.fine merge g.met.C.Cells.fine_laws g.met.C.Cells.order_laws g.met.C.Cells.join_laws m a b (record { first = f; second = h }) w
