use Rattle.offmap_laws.proofs.Contents.{single_describes}
use Rattle.exact_laws.proofs.laws.sole_maps_have_one_content.Goals as goal

pub returns : goal.returns
returns g c = λ world m js ks f s a b. single_describes g.C.Cells.fine (g.M.Concrete.allows world) g.M.Concrete.alike g.S.Sole.sole (g.met.S.Sole.sole_laws world).sole_one m js ks f s a b
