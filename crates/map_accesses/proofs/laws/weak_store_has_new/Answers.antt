use Rattle.map_accesses.proofs.Describing.{weak_new}
use Rattle.map_accesses.proofs.laws.weak_store_has_new.Goals as goal

pub returns : goal.returns
returns g c = λ world m unit k s z x ks cs size u f v fit w d n h.
    weak_new g.C.Cells.ops g.C.Cells.fine g.M.Concrete.tint g.M.Concrete.bare g.M.Concrete.sure (g.M.Concrete.allows world) (g.M.Concrete.gives world) g.met.C.Cells.fine_laws g.met.C.Cells.order_laws g.met.C.Cells.join_laws (g.met.M.Concrete.meaning_laws world) g.met.C.Cells.part_laws (g.met.M.Concrete.access_laws world)
    m unit k s z x ks cs size u f v fit w d n h
