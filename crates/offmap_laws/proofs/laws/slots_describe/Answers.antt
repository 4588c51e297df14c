use Rattle.offmap_laws.proofs.Slots.{slots_describe}
use Rattle.offmap_laws.proofs.laws.slots_describe.Goals as goal

pub returns : goal.returns
returns g c = λ world m at k gap n c0 ks js s f d wk wj h e a.
    slots_describe g.C.Cells.ops g.C.Cells.fine g.M.Concrete.tint g.M.Concrete.bare g.M.Concrete.sure (g.M.Concrete.allows world) (g.M.Concrete.gives world) g.met.C.Cells.fine_laws g.met.C.Cells.order_laws
    g.met.C.Cells.join_laws (g.met.M.Concrete.meaning_laws world) g.met.C.Cells.part_laws (g.met.M.Concrete.access_laws world) m k gap c0 ks js s f d wk wj n at h e a
