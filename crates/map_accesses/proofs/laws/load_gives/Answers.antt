use Rattle.map_accesses.proofs.Describing.{load_gives}
use Rattle.map_accesses.proofs.laws.load_gives.Goals as goal

pub returns : goal.returns
returns g c = λ world m unit rs k s z ks size u f r v fit w d h.
    load_gives g.C.Cells.ops g.C.Cells.fine g.M.Concrete.tint g.M.Concrete.bare g.M.Concrete.sure (g.M.Concrete.allows world) (g.M.Concrete.gives world) g.met.C.Cells.fine_laws g.met.C.Cells.order_laws g.met.C.Cells.join_laws (g.met.M.Concrete.meaning_laws world) g.met.C.Cells.part_laws (g.met.M.Concrete.access_laws world)
    m unit rs k s z ks size u f r v fit w d h
