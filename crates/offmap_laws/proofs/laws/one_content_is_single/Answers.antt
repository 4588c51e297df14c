use Rattle.offmap_laws.proofs.Contents.{one_is_single}
use Rattle.offmap_laws.proofs.laws.one_content_is_single.Goals as goal

pub returns : goal.returns
returns g c = λ world single m l f h. one_is_single g.C.Cells.fine (g.M.Concrete.allows world) g.M.Concrete.alike single l m f h
