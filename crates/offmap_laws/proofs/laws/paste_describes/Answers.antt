use Rattle.cell_laws.proofs.Parts.{pasted_describes}
use Rattle.offmap_laws.proofs.laws.paste_describes.Goals as goal

pub returns : goal.returns
returns g c = λ world m part at ks cs f h w n d e. pasted_describes g.C.Cells.ops g.C.Cells.fine (g.M.Concrete.allows world) (g.M.Concrete.gives world) g.met.C.Cells.part_laws (g.met.M.Concrete.access_laws world) m at part ks cs f h w n d e
