use Rattle.run_merges.specs.Widened.{widened_cell_laws}
use Rattle.exact_laws.proofs.laws.widening_merges.Goals as goal

pub returns : goal.returns
returns g c = λ widened w. widened_cell_laws g.C.Cells.ops g.C.Cells.fine widened g.met.C.Cells.fine_laws g.met.C.Cells.order_laws w
