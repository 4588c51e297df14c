use Rattle.std.proofs.Common.{arith}
use Rattle.std.proofs.lemmas.Result.{on_ok_weaker}
use Rattle.cell_runs.proofs.Taking.{tail_is}
use Rattle.run_slots.specs.Walks.{bits_before}
use Rattle.run_slots.proofs.Walking.{tail_runs, tail_fits}
use Rattle.run_slots.proofs.Weakening.{part_view, part_some, slot_made, slot_maps, slot_even}
use Rattle.run_slots.proofs.slots.weaken_slot.Goals as goal

pub copy_part-requires-clause-some : goal.copy_part-requires-clause-some
copy_part-requires-clause-some g c = (tail_runs g.C.Cells.fine c.args.runs.now _ c.args.spot.index (tail_is c.args.runs.now c.args.spot.index) c.requires.runs).some

pub copy_part-requires-clause-fine : goal.copy_part-requires-clause-fine
copy_part-requires-clause-fine g c = (tail_runs g.C.Cells.fine c.args.runs.now _ c.args.spot.index (tail_is c.args.runs.now c.args.spot.index) c.requires.runs).fine

pub copy_part-requires-clause-small : goal.copy_part-requires-clause-small
copy_part-requires-clause-small g c = (tail_runs g.C.Cells.fine c.args.runs.now _ c.args.spot.index (tail_is c.args.runs.now c.args.spot.index) c.requires.runs).small

pub copy_part-requires-clause-inside : goal.copy_part-requires-clause-inside
copy_part-requires-clause-inside g c =
    tail_fits c.args.runs.now _ (bits_before c.args.runs.now c.args.spot) c.args.bits c.args.spot (tail_is c.args.runs.now c.args.spot.index) c.requires.spot c.requires.enough

pub join-requires-clause-maps : goal.join-requires-clause-maps
join-requires-clause-maps g c =
    let v = part_view g.C.Cells.ops c.args.runs.now _ c.copy_part.new.out.items c.deref.result.now c.args.spot c.args.bits c.new-part.result.items c.requires.runs.some c.requires.spot
    (tail_is c.args.runs.now c.args.spot.index) c.new-part.ensures.items c.deref.ensures.value c.in_ok-copy_part.ensures in
    slot_maps g.C.Cells.ops g.C.Cells.fine g.met.C.Cells.part_laws c.args.runs.now c.deref.result.now c.args.put.now (bits_before c.args.runs.now c.args.spot) c.args.bits v
    (part_some g.C.Cells.ops _ c.copy_part.new.out.items c.deref.result.now c.args.spot.skip c.args.bits c.new-part.result.items c.new-part.ensures.items c.deref.ensures.value c.in_ok-copy_part.ensures)
    c.requires.runs c.requires.put

pub join-requires-clause-even : goal.join-requires-clause-even
join-requires-clause-even g c =
    let v = part_view g.C.Cells.ops c.args.runs.now _ c.copy_part.new.out.items c.deref.result.now c.args.spot c.args.bits c.new-part.result.items c.requires.runs.some c.requires.spot
    (tail_is c.args.runs.now c.args.spot.index) c.new-part.ensures.items c.deref.ensures.value c.in_ok-copy_part.ensures in
    slot_even g.C.Cells.ops c.args.runs.now c.deref.result.now c.args.put.now (bits_before c.args.runs.now c.args.spot) c.args.bits v c.requires.enough c.requires.even

pub join-requires-clause-small : goal.join-requires-clause-small
join-requires-clause-small g c =
    let v = part_view g.C.Cells.ops c.args.runs.now _ c.copy_part.new.out.items c.deref.result.now c.args.spot c.args.bits c.new-part.result.items c.requires.runs.some c.requires.spot
    (tail_is c.args.runs.now c.args.spot.index) c.new-part.ensures.items c.deref.ensures.value c.in_ok-copy_part.ensures in
    let w = slot_even g.C.Cells.ops c.args.runs.now c.deref.result.now c.args.put.now (bits_before c.args.runs.now c.args.spot) c.args.bits v c.requires.enough c.requires.even in
    let s = c.requires.put.small in
    omega arith

pub returns : goal.returns
returns g c =
    on_ok_weaker c.join.result
    (λ y. slot_made g.C.Cells.ops c.args.runs.now _ c.args.put.now c.deref.result.now c.copy_part.new.out.items c.args.spot c.args.bits c.new-part.result.items c.args.out.now.items c.join.new.out.items
    c.requires.runs.some c.requires.spot (tail_is c.args.runs.now c.args.spot.index) c.new-part.ensures.items c.deref.ensures.value c.in_ok-copy_part.ensures y) c.join.ensures
