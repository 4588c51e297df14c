use Rattle.cell_laws.proofs.Joins.{joined_same, joined_cell_same}
use Rattle.offmap_laws.proofs.laws.join_with_included.Goals as goal

pub returns : goal.returns
returns g c = λ a b w i. joined_same g.C.Cells.ops _ (joined_cell_same g.C.Cells.ops) a b w i
