use Rattle.exact_laws.proofs.Closing.{single_parts, parts_single, sole_copied}
use Rattle.cell_laws.specs.Access.{copied}
use Rattle.cell_laws.proofs.Parts.{fine_drop, fine_copied, copied_describes}
use Rattle.std.proofs.Common.{take, drop}
use Rattle.offmap_laws.proofs.Contents.{single_describes}
use Rattle.exact_laws.proofs.laws.copy_is_sole.Goals as goal

pub returns-clause-sole : goal.returns-clause-sole
returns-clause-sole g c = λ world m at n f s l h. parts_single g.S.Sole.sole (copied g.C.Cells.ops m at n) (sole_copied g.C.Cells.ops g.C.Cells.fine g.S.Sole.sole g.S.Sole.rigid (g.met.S.Sole.sole_laws world).piece_sole (g.met.S.Sole.sole_laws world).piece_loose m at n f (fine_drop g.C.Cells.ops g.C.Cells.fine g.met.C.Cells.part_laws m at f) (single_parts g.S.Sole.sole m s) l h)

pub returns-clause-content : goal.returns-clause-content
returns-clause-content g c = λ world m at n ks js f s l h d e.
    single_describes g.C.Cells.fine (g.M.Concrete.allows world) g.M.Concrete.alike g.S.Sole.sole (g.met.S.Sole.sole_laws world).sole_one (copied g.C.Cells.ops m at n) js (take n (drop at ks)) (fine_copied g.C.Cells.ops g.C.Cells.fine g.met.C.Cells.part_laws m at n f)
    (parts_single g.S.Sole.sole (copied g.C.Cells.ops m at n) (sole_copied g.C.Cells.ops g.C.Cells.fine g.S.Sole.sole g.S.Sole.rigid (g.met.S.Sole.sole_laws world).piece_sole (g.met.S.Sole.sole_laws world).piece_loose m at n f (fine_drop g.C.Cells.ops g.C.Cells.fine g.met.C.Cells.part_laws m at f) (single_parts g.S.Sole.sole m s) l h)) e
    (copied_describes g.C.Cells.ops g.C.Cells.fine (g.M.Concrete.allows world) (g.M.Concrete.gives world) g.met.C.Cells.part_laws (g.met.M.Concrete.access_laws world) m at n ks f d)
