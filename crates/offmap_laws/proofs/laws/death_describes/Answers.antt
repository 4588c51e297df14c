use Rattle.offmap_laws.proofs.Contents.{left_describes}
use Rattle.offmap_laws.proofs.laws.death_describes.Goals as goal

pub returns : goal.returns
returns g c = λ world wither left m ks l d f h. left_describes g.C.Cells.ops g.C.Cells.fine (g.M.Concrete.allows world) (g.M.Concrete.gives world) (g.met.M.Concrete.access_laws world) wither left (g.met.M.Concrete.meaning_laws world).allows_length l d m ks f h
