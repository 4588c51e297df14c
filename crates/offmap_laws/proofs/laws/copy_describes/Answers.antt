use Rattle.cell_laws.proofs.Parts.{copied_describes}
use Rattle.offmap_laws.proofs.laws.copy_describes.Goals as goal

pub returns : goal.returns
returns g c = λ world m at n ks f d. copied_describes g.C.Cells.ops g.C.Cells.fine (g.M.Concrete.allows world) (g.M.Concrete.gives world) g.met.C.Cells.part_laws (g.met.M.Concrete.access_laws world) m at n ks f d
