use Rattle.cell_laws.proofs.Accesses.{stored_describes}
use Rattle.offmap_laws.proofs.laws.store_describes.Goals as goal

pub returns : goal.returns
returns g c = λ world m at k x ks cs s f h w d a. stored_describes g.C.Cells.ops g.C.Cells.fine (g.M.Concrete.allows world) (g.M.Concrete.gives world) g.met.C.Cells.part_laws (g.met.M.Concrete.access_laws world) m at k x ks cs s f h w ((g.met.M.Concrete.meaning_laws world).allows_length k x cs a) d a
