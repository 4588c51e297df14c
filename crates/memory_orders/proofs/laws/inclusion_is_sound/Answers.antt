use Rattle.memory_orders.proofs.Below.{included_describes_memory}
use Rattle.memory_orders.proofs.laws.inclusion_is_sound.Goals as goal

pub returns : goal.returns
returns g c = λ world a b objects held i j s f d.
    included_describes_memory g.C.Cells.ops g.C.Cells.fine g.M.Concrete.tint g.M.Concrete.bare g.M.Concrete.sure (g.M.Concrete.allows world) (g.met.M.Concrete.meaning_laws world) a b objects held i j s f d
