use Rattle.offmap_laws.proofs.Contents.{cell_within}
use Rattle.offmap_laws.proofs.laws.join_of_cells.Goals as goal

pub returns : goal.returns
returns g c = λ k x y f h. cell_within g.C.Cells.ops g.C.Cells.fine g.met.C.Cells.order_laws g.met.C.Cells.join_laws k x y f h
