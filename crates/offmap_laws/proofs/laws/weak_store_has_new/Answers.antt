use Rattle.offmap_laws.proofs.Among.{among}
use Rattle.cell_laws.proofs.Accesses.{weakened_new}
use Rattle.offmap_laws.proofs.laws.weak_store_has_new.Goals as goal

pub returns : goal.returns
returns g c = λ world m ats k x ks cs at s f a w d n i. weakened_new g.C.Cells.ops g.C.Cells.fine g.M.Concrete.tint g.M.Concrete.bare g.M.Concrete.sure (g.M.Concrete.allows world) (g.M.Concrete.gives world) g.met.C.Cells.fine_laws g.met.C.Cells.order_laws g.met.C.Cells.join_laws (g.met.M.Concrete.meaning_laws world) g.met.C.Cells.part_laws (g.met.M.Concrete.access_laws world) m ats k x ks cs at s f a w d n (among ats at i)
