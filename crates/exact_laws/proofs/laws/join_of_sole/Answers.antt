use Rattle.exact_laws.proofs.Closing.{single_parts}
use Rattle.cell_laws.specs.Join.{joined_cell}
use Rattle.exact_laws.proofs.Keeping.{sole_joined, join_keeps}
use Rattle.exact_laws.proofs.laws.join_of_sole.Goals as goal

pub returns : goal.returns
returns g c = λ world a b ks f h s t w d e.
    sole_joined g.C.Cells.ops g.C.Cells.fine g.M.Concrete.tint g.M.Concrete.bare g.M.Concrete.sure g.M.Concrete.alike (g.M.Concrete.allows world) g.M.Concrete.bound g.S.Sole.sole g.S.Sole.rigid g.met.C.Cells.fine_laws g.met.C.Cells.order_laws (g.met.M.Concrete.meaning_laws world) (g.met.S.Sole.sole_laws world) (joined_cell g.C.Cells.ops) (join_keeps g.C.Cells.ops g.C.Cells.fine g.M.Concrete.tint g.M.Concrete.bare g.M.Concrete.sure g.M.Concrete.alike (g.M.Concrete.allows world) g.M.Concrete.bound g.S.Sole.sole g.S.Sole.rigid g.met.C.Cells.fine_laws g.met.C.Cells.order_laws (g.met.M.Concrete.meaning_laws world) (g.met.S.Sole.sole_laws world)) a b ks f h (single_parts g.S.Sole.sole a s) (single_parts g.S.Sole.sole b t) w d e
