use Rattle.cell_laws.proofs.Joins.{joined_cell_laws}
use Rattle.offmap_laws.proofs.laws.join_merges.Goals as goal

pub returns : goal.returns
returns g c = joined_cell_laws g.C.Cells.ops g.C.Cells.fine g.met.C.Cells.fine_laws g.met.C.Cells.order_laws g.met.C.Cells.join_laws
