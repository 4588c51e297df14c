use Rattle.offmap_laws.proofs.Splitting.{repeated_describes}
use Rattle.offmap_laws.proofs.laws.repetition_describes.Goals as goal

pub returns : goal.returns
returns g c = λ world k n x ks s a. repeated_describes g.C.Cells.ops g.C.Cells.fine (g.M.Concrete.allows world) (g.M.Concrete.gives world) g.met.C.Cells.part_laws (g.met.M.Concrete.access_laws world) (g.met.M.Concrete.meaning_laws world).allows_length k n x ks s a
