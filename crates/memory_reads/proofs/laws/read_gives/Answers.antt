use Rattle.memory_reads.proofs.Giving.{read_gives}
use Rattle.memory_reads.proofs.laws.read_gives.Goals as goal

pub returns : goal.returns
returns g c = λ world m ranges k ps p z objects held ks size i rs f d a h b.
    read_gives g.C.Cells.ops g.C.Cells.fine g.M.Concrete.tint g.M.Concrete.bare g.M.Concrete.sure (g.M.Concrete.allows world) (g.M.Concrete.gives world) g.met.C.Cells.fine_laws g.met.C.Cells.order_laws g.met.C.Cells.join_laws
    (g.met.M.Concrete.meaning_laws world) g.met.C.Cells.part_laws (g.met.M.Concrete.access_laws world) m ranges k size i rs objects held d ps p z ks f a h b
