use Rattle.offmap.proofs.Building.{seen, left_built, left_map}
use Rattle.offmap.proofs.map.OffMap.forget_base.Goals as goal

pub invariant_of-result : goal.invariant_of-result
invariant_of-result g c =
    let s = seen g.C.Cells.fine c.self.inside.bits c.self.inside.runs.items c.deref.result.now c.args.self.now c.self.invariant c.self.view_is c.deref.ensures.value in
    left_map g.C.Cells.ops g.C.Cells.fine (g.D.Death.left c.args.death.now) (g.met.D.Death.laws c.args.death.now) c.self.inside.bits c.deref.result.now c.new-runs.result.items c.leave_all.new.out.items c.args.self.now
    s c.new-runs.ensures.items c.in_ok-leave_all.ensures

pub returns : goal.returns
returns g c =
    let s = seen g.C.Cells.fine c.self.inside.bits c.self.inside.runs.items c.deref.result.now c.args.self.now c.self.invariant c.self.view_is c.deref.ensures.value in
    (left_built g.C.Cells.ops g.C.Cells.fine (g.D.Death.left c.args.death.now) (g.met.D.Death.laws c.args.death.now) c.deref.result.now c.new-runs.result.items c.leave_all.new.out.items c.args.self.now
    s.view c.new-runs.ensures.items c.in_ok-leave_all.ensures).view
