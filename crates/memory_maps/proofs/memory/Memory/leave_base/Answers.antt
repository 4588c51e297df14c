use Rattle.memory_maps.proofs.Objects.{left_is, left_memory}
use Rattle.memory_maps.proofs.memory.Memory.leave_base.Goals as goal

pub invariant_of-result : goal.invariant_of-result
invariant_of-result g c =
    left_memory g.C.Cells.ops g.C.Cells.fine (g.D.Death.left c.args.death.now) (g.met.D.Death.laws c.args.death.now) c.self.inside.bases c.self.inside.slots c.in_ok-others.others c.new-none.result
    c.in_ok-bases.bases c.in_ok-slots.slots c.args.base c.in_ok-others.ensures.value c.new-none.ensures c.in_ok-bases.ensures.value c.in_ok-slots.ensures.value c.self.invariant

pub returns : goal.returns
returns g c =
    left_is g.C.Cells.ops g.C.Cells.fine (g.D.Death.left c.args.death.now) (g.met.D.Death.laws c.args.death.now) c.args.self.now c.self.inside.bases c.self.inside.slots c.in_ok-others.others c.new-none.result
    c.in_ok-bases.bases c.in_ok-slots.slots c.args.base c.self.view_is c.in_ok-others.ensures.value c.new-none.ensures c.in_ok-bases.ensures.value c.in_ok-slots.ensures.value
