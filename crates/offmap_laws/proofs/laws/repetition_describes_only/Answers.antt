use Rattle.offmap_laws.proofs.Splitting.{repeated_only}
use Rattle.offmap_laws.proofs.laws.repetition_describes_only.Goals as goal

pub returns : goal.returns
returns g c = λ world k n x ks d. repeated_only g.C.Cells.ops (g.M.Concrete.allows world) k n x ks d
