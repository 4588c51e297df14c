use Rattle.offmap_laws.proofs.Splitting.{joined_only}
use Rattle.offmap_laws.proofs.laws.join_describes_only.Goals as goal

pub returns : goal.returns
returns g c = λ world xs ys vs ws k x y ks fx fy w f h d.
    joined_only g.C.Cells.ops g.C.Cells.fine g.M.Concrete.tint g.M.Concrete.bare g.M.Concrete.sure (g.M.Concrete.allows world) g.met.C.Cells.fine_laws g.met.C.Cells.order_laws g.met.C.Cells.join_laws (g.met.M.Concrete.meaning_laws world) xs ys vs ws k x y ks fx fy w f h d
