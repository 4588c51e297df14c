use Rattle.cell_laws.specs.Access.{put, repeated}
use Rattle.cell_laws.proofs.Accesses.{fine_repeated}
use Rattle.offmap_laws.proofs.Contents.{single_describes}
use Rattle.offmap_laws.proofs.Splitting.{repeated_describes}
use Rattle.exact_laws.proofs.Closing.{single_parts, parts_single, sole_repeated}
use Rattle.exact_laws.proofs.laws.repeated_is_sole.Goals as goal

pub returns-clause-sole : goal.returns-clause-sole
returns-clause-sole g c = λ k n x s. parts_single g.S.Sole.sole (repeated g.C.Cells.ops k n x) (sole_repeated g.S.Sole.sole g.C.Cells.ops k n x (single_parts g.S.Sole.sole (put g.C.Cells.ops k x) s))

pub returns-clause-content : goal.returns-clause-content
returns-clause-content g c = λ world k n x ks js z s h d.
    single_describes g.C.Cells.fine (g.M.Concrete.allows world) g.M.Concrete.alike g.S.Sole.sole (g.met.S.Sole.sole_laws world).sole_one (repeated g.C.Cells.ops k n x) js ks (fine_repeated g.C.Cells.ops g.C.Cells.fine g.met.C.Cells.part_laws k n x z)
    (parts_single g.S.Sole.sole (repeated g.C.Cells.ops k n x) (sole_repeated g.S.Sole.sole g.C.Cells.ops k n x (single_parts g.S.Sole.sole (put g.C.Cells.ops k x) s))) d
    (repeated_describes g.C.Cells.ops g.C.Cells.fine (g.M.Concrete.allows world) (g.M.Concrete.gives world) g.met.C.Cells.part_laws (g.met.M.Concrete.access_laws world) (g.met.M.Concrete.meaning_laws world).allows_length k n x ks z h)
