use Rattle.offmap_laws.proofs.Contents.{joined_there}
use Rattle.offmap_laws.proofs.laws.join_of_elements.Goals as goal

pub returns : goal.returns
returns g c = λ merge xs ys vs ws k x y f h w p. joined_there g.C.Cells.ops g.C.Cells.fine g.met.C.Cells.fine_laws merge xs ys vs ws k x y f h w p
