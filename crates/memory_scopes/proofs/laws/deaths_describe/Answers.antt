use Rattle.memory_scopes.proofs.Dying.{scope_describes}
use Rattle.memory_scopes.proofs.laws.deaths_describe.Goals as goal

pub returns : goal.returns
returns g c = λ world wither left m bs objects held ll dl i a d.
    scope_describes g.C.Cells.ops g.C.Cells.fine (g.M.Concrete.allows world) (g.M.Concrete.gives world) (g.met.M.Concrete.access_laws world) (g.met.M.Concrete.meaning_laws world).allows_length wither left ll dl bs m objects held i a d
