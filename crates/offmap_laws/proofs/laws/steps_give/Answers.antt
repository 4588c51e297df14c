use Rattle.offmap_laws.proofs.Slots.{steps_give}
use Rattle.offmap_laws.proofs.laws.steps_give.Goals as goal

pub returns : goal.returns
returns g c = λ world m k at step count i offsets ks s f h w d r l.
    steps_give g.C.Cells.ops g.C.Cells.fine (g.M.Concrete.allows world) (g.M.Concrete.gives world) g.met.C.Cells.fine_laws g.met.C.Cells.part_laws (g.met.M.Concrete.access_laws world) m k at step count i offsets ks s f h w d r l
