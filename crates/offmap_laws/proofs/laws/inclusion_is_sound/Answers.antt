use Rattle.cell_laws.proofs.Soundness.{included_describes}
use Rattle.offmap_laws.proofs.laws.inclusion_is_sound.Goals as goal

pub returns : goal.returns
returns g c = λ world a b ks f h w i d. included_describes g.C.Cells.ops g.C.Cells.fine g.M.Concrete.tint g.M.Concrete.bare g.M.Concrete.sure (g.M.Concrete.allows world) (g.met.M.Concrete.meaning_laws world) a b ks f h w i d
