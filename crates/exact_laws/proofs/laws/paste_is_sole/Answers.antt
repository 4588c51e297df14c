use Rattle.exact_laws.proofs.Closing.{single_parts, parts_single, sole_pasted}
use Rattle.cell_laws.specs.Elements.{width}
use Rattle.cell_laws.specs.Access.{pasted}
use Rattle.cell_laws.proofs.Parts.{fine_pasted, pasted_describes}
use Rattle.std.proofs.Common.{◌+◌, ◌++◌, take, drop}
use Rattle.offmap_laws.proofs.Contents.{single_describes}
use Rattle.exact_laws.proofs.laws.paste_is_sole.Goals as goal

pub returns-clause-sole : goal.returns-clause-sole
returns-clause-sole g c = λ world m part at f s t l h. parts_single g.S.Sole.sole (pasted g.C.Cells.ops m at part) (sole_pasted g.C.Cells.ops g.C.Cells.fine g.S.Sole.sole g.S.Sole.rigid (g.met.S.Sole.sole_laws world).piece_sole (g.met.S.Sole.sole_laws world).piece_loose m at part f (single_parts g.S.Sole.sole m s) (single_parts g.S.Sole.sole part t) l h)

pub returns-clause-content : goal.returns-clause-content
returns-clause-content g c = λ world m part at ks cs js f p s t l h w v u d e b.
    single_describes g.C.Cells.fine (g.M.Concrete.allows world) g.M.Concrete.alike g.S.Sole.sole (g.met.S.Sole.sole_laws world).sole_one (pasted g.C.Cells.ops m at part) js (take at ks ++ (cs ++ drop (at + width part) ks)) (fine_pasted g.C.Cells.ops g.C.Cells.fine g.met.C.Cells.part_laws m at part f p)
    (parts_single g.S.Sole.sole (pasted g.C.Cells.ops m at part) (sole_pasted g.C.Cells.ops g.C.Cells.fine g.S.Sole.sole g.S.Sole.rigid (g.met.S.Sole.sole_laws world).piece_sole (g.met.S.Sole.sole_laws world).piece_loose m at part f (single_parts g.S.Sole.sole m s) (single_parts g.S.Sole.sole part t) l h)) b
    (pasted_describes g.C.Cells.ops g.C.Cells.fine (g.M.Concrete.allows world) (g.M.Concrete.gives world) g.met.C.Cells.part_laws (g.met.M.Concrete.access_laws world) m at part ks cs f w v u d e)
