use Rattle.cell_laws.proofs.Parts.{pasted_part, fine_take}
use Rattle.offmap_laws.proofs.laws.paste_is_copied.Goals as goal

pub returns : goal.returns
returns g c = λ m part at f h l. pasted_part g.C.Cells.ops g.C.Cells.fine g.met.C.Cells.fine_laws m at part (fine_take g.C.Cells.ops g.C.Cells.fine g.met.C.Cells.part_laws m at f) h l
