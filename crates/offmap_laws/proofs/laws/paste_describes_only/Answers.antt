use Rattle.offmap_laws.proofs.Splitting.{pasted_only}
use Rattle.offmap_laws.proofs.laws.paste_describes_only.Goals as goal

pub returns : goal.returns
returns g c = λ world m part at js h d. pasted_only g.C.Cells.ops (g.M.Concrete.allows world) m part at js h d
