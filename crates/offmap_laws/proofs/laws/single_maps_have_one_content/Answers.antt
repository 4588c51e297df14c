use Rattle.offmap_laws.proofs.Contents.{single_describes}
use Rattle.offmap_laws.proofs.laws.single_maps_have_one_content.Goals as goal

pub returns : goal.returns
returns g c = λ world single m js ks l f s a b. single_describes g.C.Cells.fine (g.M.Concrete.allows world) g.M.Concrete.alike single l.single_one m js ks f s a b
