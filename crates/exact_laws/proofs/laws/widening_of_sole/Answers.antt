use Rattle.exact_laws.proofs.Closing.{single_parts}
use Rattle.exact_laws.proofs.Keeping.{sole_joined}
use Rattle.exact_laws.proofs.laws.widening_of_sole.Goals as goal

pub returns : goal.returns
returns g c = λ world merge a b ks q f h s t w d e.
    sole_joined g.C.Cells.ops g.C.Cells.fine g.M.Concrete.tint g.M.Concrete.bare g.M.Concrete.sure g.M.Concrete.alike (g.M.Concrete.allows world) g.M.Concrete.bound g.S.Sole.sole g.S.Sole.rigid g.met.C.Cells.fine_laws g.met.C.Cells.order_laws (g.met.M.Concrete.meaning_laws world) (g.met.S.Sole.sole_laws world) merge q a b ks f h (single_parts g.S.Sole.sole a s) (single_parts g.S.Sole.sole b t) w d e
