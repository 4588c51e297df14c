use Rattle.map_accesses.proofs.Widths.{weak_kept}
use Rattle.map_accesses.proofs.laws.weak_store_keeps_map.Goals as goal

pub returns-clause-wide : goal.returns-clause-wide
returns-clause-wide g c = λ m unit k s x size u f v fit. (weak_kept g.C.Cells.ops g.C.Cells.fine g.met.C.Cells.fine_laws g.met.C.Cells.order_laws g.met.C.Cells.join_laws g.met.C.Cells.part_laws m unit k s x size u f v fit).wide

pub returns-clause-fine : goal.returns-clause-fine
returns-clause-fine g c = λ m unit k s x size u f v fit. (weak_kept g.C.Cells.ops g.C.Cells.fine g.met.C.Cells.fine_laws g.met.C.Cells.order_laws g.met.C.Cells.join_laws g.met.C.Cells.part_laws m unit k s x size u f v fit).fine
