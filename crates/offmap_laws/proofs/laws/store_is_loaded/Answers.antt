use Rattle.offmap_laws.proofs.Splitting.{stored_loaded}
use Rattle.offmap_laws.proofs.laws.store_is_loaded.Goals as goal

pub returns : goal.returns
returns g c = λ m at k x s f h b. stored_loaded g.C.Cells.ops g.C.Cells.fine g.met.C.Cells.fine_laws g.met.C.Cells.part_laws m at k x s f h b
