use Rattle.offmap.proofs.Building.{seen, put_view, put_runs, put_even, slots_built, slots_map}
use Rattle.offmap.proofs.map.OffMap.store_slots.Goals as goal

pub weaken-requires-clause-put : goal.weaken-requires-clause-put
weaken-requires-clause-put g c =
    put_runs g.C.Cells.ops g.C.Cells.fine g.met.C.Cells.part_laws c.new-put.result.items c.push_filled.new.out.items c.deref-2.result.now c.args.slots.bits c.args.cell.now c.requires.size c.new-put.ensures.items c.deref-2.ensures.value
    c.in_ok-push_filled.ensures

pub weaken-requires-clause-even : goal.weaken-requires-clause-even
weaken-requires-clause-even g c =
    put_even g.C.Cells.ops g.C.Cells.fine g.met.C.Cells.part_laws c.new-put.result.items c.push_filled.new.out.items c.deref-2.result.now c.args.slots.bits c.args.cell.now c.new-put.ensures.items c.deref-2.ensures.value
    c.in_ok-push_filled.ensures

pub invariant_of-result : goal.invariant_of-result
invariant_of-result g c =
    let s = seen g.C.Cells.fine c.self.inside.bits c.self.inside.runs.items c.deref.result.now c.args.self.now c.self.invariant c.self.view_is c.deref.ensures.value in
    slots_map g.C.Cells.ops g.C.Cells.fine g.met.C.Cells.fine_laws g.met.C.Cells.order_laws g.met.C.Cells.join_laws g.met.C.Cells.part_laws c.self.inside.bits c.deref.result.now c.weaken.new.out.items
    c.args.self.now c.args.at c.args.slots.bits c.args.slots.gap c.args.more c.args.cell.now s c.requires.size c.requires.inside
    (slots_built g.C.Cells.ops c.deref.result.now c.deref-2.result.now c.new-runs.result.items c.weaken.new.out.items c.args.self.now _ c.args.at c.args.slots.bits c.args.slots.gap c.args.more
    (seen g.C.Cells.fine c.self.inside.bits c.self.inside.runs.items c.deref.result.now c.args.self.now c.self.invariant c.self.view_is c.deref.ensures.value).view
    (put_view g.C.Cells.ops g.C.Cells.fine g.met.C.Cells.part_laws c.new-put.result.items c.push_filled.new.out.items c.deref-2.result.now c.args.slots.bits c.args.cell.now c.new-put.ensures.items c.deref-2.ensures.value
    c.in_ok-push_filled.ensures) c.new-runs.ensures.items c.in_ok-weaken.ensures)

pub returns : goal.returns
returns g c =
    (slots_built g.C.Cells.ops c.deref.result.now c.deref-2.result.now c.new-runs.result.items c.weaken.new.out.items c.args.self.now _ c.args.at c.args.slots.bits c.args.slots.gap c.args.more
    (seen g.C.Cells.fine c.self.inside.bits c.self.inside.runs.items c.deref.result.now c.args.self.now c.self.invariant c.self.view_is c.deref.ensures.value).view
    (put_view g.C.Cells.ops g.C.Cells.fine g.met.C.Cells.part_laws c.new-put.result.items c.push_filled.new.out.items c.deref-2.result.now c.args.slots.bits c.args.cell.now c.new-put.ensures.items c.deref-2.ensures.value
    c.in_ok-push_filled.ensures) c.new-runs.ensures.items c.in_ok-weaken.ensures).view
