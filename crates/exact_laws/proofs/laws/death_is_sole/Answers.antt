use Rattle.std.proofs.Common.{map}
use Rattle.run_orders.specs.Deaths.{left_all}
use Rattle.run_orders.proofs.Leaving.{left_are_fine}
use Rattle.offmap_laws.proofs.Contents.{left_describes, single_describes}
use Rattle.exact_laws.proofs.Closing.{single_parts, parts_single, sole_left}
use Rattle.exact_laws.proofs.laws.death_is_sole.Goals as goal

pub returns-clause-sole : goal.returns-clause-sole
returns-clause-sole g c = λ left m d f s. parts_single g.S.Sole.sole (left_all g.C.Cells.ops left m) (sole_left g.C.Cells.ops g.C.Cells.fine g.S.Sole.sole left d m f (single_parts g.S.Sole.sole m s))

pub returns-clause-content : goal.returns-clause-content
returns-clause-content g c = λ world wither left m ks js l e d f s h i.
    single_describes g.C.Cells.fine (g.M.Concrete.allows world) g.M.Concrete.alike g.S.Sole.sole (g.met.S.Sole.sole_laws world).sole_one (left_all g.C.Cells.ops left m) js (map wither ks) (left_are_fine g.C.Cells.ops g.C.Cells.fine left l m f)
    (parts_single g.S.Sole.sole (left_all g.C.Cells.ops left m) (sole_left g.C.Cells.ops g.C.Cells.fine g.S.Sole.sole left d m f (single_parts g.S.Sole.sole m s))) i
    (left_describes g.C.Cells.ops g.C.Cells.fine (g.M.Concrete.allows world) (g.M.Concrete.gives world) (g.met.M.Concrete.access_laws world) wither left (g.met.M.Concrete.meaning_laws world).allows_length l e m ks f h)
