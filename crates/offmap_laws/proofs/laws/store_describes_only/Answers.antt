use Rattle.offmap_laws.proofs.Splitting.{stored_only}
use Rattle.offmap_laws.proofs.laws.store_describes_only.Goals as goal

pub returns : goal.returns
returns g c = λ world m at k x js h d. stored_only g.C.Cells.ops (g.M.Concrete.allows world) m at k x js h d
