use Rattle.std.proofs.Common.{◌≡◌, true, subst}
use Rattle.cell_laws.specs.Join.{joined_cell}
use Rattle.cell_laws.specs.Order.{included}
use Rattle.cell_laws.proofs.Joins.{joined_left, joined_cell_laws}
use Rattle.exact_laws.proofs.Closing.{single_parts}
use Rattle.exact_laws.proofs.Keeping.{sole_joined, join_keeps}
use Rattle.exact_laws.proofs.laws.inclusion_of_sole.Goals as goal

pub returns : goal.returns
returns g c = λ world a b ks f h s t w d e.
    subst (λ m. included g.C.Cells.ops a m ≡ true)
    (sole_joined g.C.Cells.ops g.C.Cells.fine g.M.Concrete.tint g.M.Concrete.bare g.M.Concrete.sure g.M.Concrete.alike (g.M.Concrete.allows world) g.M.Concrete.bound g.S.Sole.sole g.S.Sole.rigid g.met.C.Cells.fine_laws g.met.C.Cells.order_laws (g.met.M.Concrete.meaning_laws world) (g.met.S.Sole.sole_laws world) (joined_cell g.C.Cells.ops) (join_keeps g.C.Cells.ops g.C.Cells.fine g.M.Concrete.tint g.M.Concrete.bare g.M.Concrete.sure g.M.Concrete.alike (g.M.Concrete.allows world) g.M.Concrete.bound g.S.Sole.sole g.S.Sole.rigid g.met.C.Cells.fine_laws g.met.C.Cells.order_laws (g.met.M.Concrete.meaning_laws world) (g.met.S.Sole.sole_laws world)) a b ks f h (single_parts g.S.Sole.sole a s) (single_parts g.S.Sole.sole b t) w d e)
    (joined_left g.C.Cells.ops g.C.Cells.fine (joined_cell g.C.Cells.ops) g.met.C.Cells.fine_laws g.met.C.Cells.order_laws g.met.C.Cells.join_laws (joined_cell_laws g.C.Cells.ops g.C.Cells.fine g.met.C.Cells.fine_laws g.met.C.Cells.order_laws g.met.C.Cells.join_laws) a b (record { first = f; second = h }) w)
