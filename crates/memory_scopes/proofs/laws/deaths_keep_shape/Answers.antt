use Rattle.memory_scopes.proofs.Dying.{scope_shape}
use Rattle.memory_scopes.proofs.laws.deaths_keep_shape.Goals as goal

pub returns : goal.returns
returns g c = λ left m bs objects slots i h. scope_shape g.C.Cells.ops left bs m objects slots i h
