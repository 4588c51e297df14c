use Rattle.exact_laws.proofs.Closing.{single_parts, parts_single, sole_stored}
use Rattle.cell_laws.specs.Access.{stored}
use Rattle.cell_laws.proofs.Accesses.{fine_stored, stored_describes}
use Rattle.std.proofs.Common.{◌+◌, ◌++◌, take, drop}
use Rattle.offmap_laws.proofs.Contents.{single_describes}
use Rattle.exact_laws.proofs.laws.store_is_sole.Goals as goal

pub returns-clause-sole : goal.returns-clause-sole
returns-clause-sole g c = λ world m at k x f s t l h. parts_single g.S.Sole.sole (stored g.C.Cells.ops m at k x) (sole_stored g.C.Cells.ops g.C.Cells.fine g.S.Sole.sole g.S.Sole.rigid (g.met.S.Sole.sole_laws world).piece_sole (g.met.S.Sole.sole_laws world).piece_loose m at k x f (single_parts g.S.Sole.sole m s) (single_parts g.S.Sole.sole _ t) l h)

pub returns-clause-content : goal.returns-clause-content
returns-clause-content g c = λ world m at k x ks cs js z f s t l h w v d a b.
    single_describes g.C.Cells.fine (g.M.Concrete.allows world) g.M.Concrete.alike g.S.Sole.sole (g.met.S.Sole.sole_laws world).sole_one (stored g.C.Cells.ops m at k x) js (take at ks ++ (cs ++ drop (at + k) ks)) (fine_stored g.C.Cells.ops g.C.Cells.fine g.met.C.Cells.part_laws m at k x z f)
    (parts_single g.S.Sole.sole (stored g.C.Cells.ops m at k x) (sole_stored g.C.Cells.ops g.C.Cells.fine g.S.Sole.sole g.S.Sole.rigid (g.met.S.Sole.sole_laws world).piece_sole (g.met.S.Sole.sole_laws world).piece_loose m at k x f (single_parts g.S.Sole.sole m s) (single_parts g.S.Sole.sole _ t) l h)) b
    (stored_describes g.C.Cells.ops g.C.Cells.fine (g.M.Concrete.allows world) (g.M.Concrete.gives world) g.met.C.Cells.part_laws (g.met.M.Concrete.access_laws world) m at k x ks cs z f w v ((g.met.M.Concrete.meaning_laws world).allows_length k x cs a) d a)
