use Rattle.offmap.proofs.Building.{seen, join_built, join_map}
use Rattle.offmap.proofs.map.OffMap.merge.Goals as goal

pub invariant_of-result : goal.invariant_of-result
invariant_of-result g c =
    let s = seen g.C.Cells.fine c.first.inside.bits c.first.inside.runs.items c.deref.result.now c.args.first.now c.first.invariant c.first.view_is c.deref.ensures.value in
    let t = seen g.C.Cells.fine c.second.inside.bits c.second.inside.runs.items c.deref-2.result.now c.args.second.now c.second.invariant c.second.view_is c.deref-2.ensures.value in
    join_map g.C.Cells.ops g.C.Cells.fine (g.M.Merge.merged c.args.merge.now) g.met.C.Cells.fine_laws g.met.C.Cells.order_laws g.met.C.Cells.join_laws (g.met.M.Merge.laws c.args.merge.now)
    c.first.inside.bits c.second.inside.bits c.deref.result.now c.deref-2.result.now c.new-runs.result.items c.join.new.out.items c.args.first.now c.args.second.now s t c.requires c.new-runs.ensures.items
    c.in_ok-join.ensures

pub returns : goal.returns
returns g c =
    let s = seen g.C.Cells.fine c.first.inside.bits c.first.inside.runs.items c.deref.result.now c.args.first.now c.first.invariant c.first.view_is c.deref.ensures.value in
    let t = seen g.C.Cells.fine c.second.inside.bits c.second.inside.runs.items c.deref-2.result.now c.args.second.now c.second.invariant c.second.view_is c.deref-2.ensures.value in
    (join_built g.C.Cells.ops g.C.Cells.fine (g.M.Merge.merged c.args.merge.now) g.met.C.Cells.fine_laws g.met.C.Cells.order_laws g.met.C.Cells.join_laws (g.met.M.Merge.laws c.args.merge.now)
    c.first.inside.bits c.second.inside.bits c.deref.result.now c.deref-2.result.now c.new-runs.result.items c.join.new.out.items c.args.first.now c.args.second.now s t c.new-runs.ensures.items
    c.in_ok-join.ensures).view
