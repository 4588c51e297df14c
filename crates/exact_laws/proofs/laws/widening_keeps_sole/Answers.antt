use Rattle.exact_laws.proofs.Keeping.{widening_keeps}
use Rattle.exact_laws.proofs.laws.widening_keeps_sole.Goals as goal

pub returns : goal.returns
returns g c = λ world widened h.
    widening_keeps g.C.Cells.ops g.C.Cells.fine g.M.Concrete.tint g.M.Concrete.bare g.M.Concrete.sure g.M.Concrete.alike (g.M.Concrete.allows world) g.M.Concrete.bound g.S.Sole.sole g.S.Sole.rigid
    g.met.C.Cells.fine_laws g.met.C.Cells.order_laws (g.met.M.Concrete.meaning_laws world) (g.met.S.Sole.sole_laws world) widened h
