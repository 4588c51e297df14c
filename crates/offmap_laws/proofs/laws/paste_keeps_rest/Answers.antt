use Rattle.cell_laws.proofs.Parts.{pasted_rest, fine_take}
use Rattle.offmap_laws.proofs.laws.paste_keeps_rest.Goals as goal

pub returns : goal.returns
returns g c = λ m part at f h l. pasted_rest g.C.Cells.ops g.C.Cells.fine g.met.C.Cells.fine_laws m at part (fine_take g.C.Cells.ops g.C.Cells.fine g.met.C.Cells.part_laws m at f) h l
