use Rattle.std.proofs.Common.{◌*◌, arith}
use Rattle.cell_runs.specs.Runs.{elements}
use Rattle.run_slots.specs.Walks.{bits_before}
use Rattle.run_places.proofs.Repeating.{least_chunk}
use Rattle.run_slots.proofs.Weakening.{each_begin, each_fits, each_at, each_step, each_end, stretch_made}
use Rattle.run_slots.proofs.slots.weaken_slots.Goals as goal

pub loop-left-init : goal.loop-left-init
loop-left-init g c = each_begin g.C.Cells.ops c.args.runs.now (elements c.args.put.now) c.args.slots c.args.count c.args.spot c.args.out.now.items c.requires.spot

pub overflow_add-wide : goal.overflow_add-wide
overflow_add-wide g c =
    let s = c.requires.runs.small in
    let f = each_fits g.C.Cells.ops c.args.runs.now (elements c.args.put.now) c.args.slots (bits_before c.args.runs.now c.args.spot) c.args.count c.loop-left.left 1
    c.loop-left.at c.args.out.now.items c.loop-left.out.items (omega arith) c.requires.enough c.loop-left.invariant in
    omega arith

pub stretch_at-next-requires-clause-spot : goal.stretch_at-next-requires-clause-spot
stretch_at-next-requires-clause-spot g c = each_at g.C.Cells.ops c.args.runs.now (elements c.args.put.now) c.args.slots (bits_before c.args.runs.now c.args.spot) c.args.count c.loop-left.left c.loop-left.at c.args.out.now.items c.loop-left.out.items c.loop-left.invariant

pub stretch_at-next-requires-clause-inside : goal.stretch_at-next-requires-clause-inside
stretch_at-next-requires-clause-inside g c =
    let p = c.requires.some in
    let f = each_fits g.C.Cells.ops c.args.runs.now (elements c.args.put.now) c.args.slots (bits_before c.args.runs.now c.args.spot) c.args.count c.loop-left.left 1
    c.loop-left.at c.args.out.now.items c.loop-left.out.items (omega arith) c.requires.enough c.loop-left.invariant in
    omega arith

pub weaken_each-requires-clause-spot : goal.weaken_each-requires-clause-spot
weaken_each-requires-clause-spot g c = each_at g.C.Cells.ops c.args.runs.now (elements c.args.put.now) c.args.slots (bits_before c.args.runs.now c.args.spot) c.args.count c.loop-left.left c.loop-left.at c.args.out.now.items c.loop-left.out.items c.loop-left.invariant

pub weaken_each-requires-clause-enough : goal.weaken_each-requires-clause-enough
weaken_each-requires-clause-enough g c =
    each_fits g.C.Cells.ops c.args.runs.now (elements c.args.put.now) c.args.slots (bits_before c.args.runs.now c.args.spot) c.args.count c.loop-left.left c.stretch_at-next.result.size
    c.loop-left.at c.args.out.now.items c.loop-left.out.items (least_chunk c.stretch_at-next.result.size c.stretch_at-next.result.repeats c.loop-left.left c.stretch_at-next.ensures.again.again c.stretch_at-next.ensures.again.most) c.requires.enough c.loop-left.invariant

pub overflow_mul-next-in-loop-left : goal.overflow_mul-next-in-loop-left
overflow_mul-next-in-loop-left g c =
    let s = c.requires.runs.small in
    let f = each_fits g.C.Cells.ops c.args.runs.now (elements c.args.put.now) c.args.slots (bits_before c.args.runs.now c.args.spot) c.args.count c.loop-left.left (c.stretch_at-next.result.size * c.stretch_at-next.result.repeats)
    c.loop-left.at c.args.out.now.items c.loop-left.out.items c.stretch_at-next.ensures.again.most c.requires.enough c.loop-left.invariant in
    omega arith

pub walk-at-requires-clause-spot : goal.walk-at-requires-clause-spot
walk-at-requires-clause-spot g c = each_at g.C.Cells.ops c.args.runs.now (elements c.args.put.now) c.args.slots (bits_before c.args.runs.now c.args.spot) c.args.count c.loop-left.left c.loop-left.at c.args.out.now.items c.loop-left.out.items c.loop-left.invariant

pub walk-at-requires-clause-enough : goal.walk-at-requires-clause-enough
walk-at-requires-clause-enough g c =
    each_fits g.C.Cells.ops c.args.runs.now (elements c.args.put.now) c.args.slots (bits_before c.args.runs.now c.args.spot) c.args.count c.loop-left.left (c.stretch_at-next.result.size * c.stretch_at-next.result.repeats)
    c.loop-left.at c.args.out.now.items c.loop-left.out.items c.stretch_at-next.ensures.again.most c.requires.enough c.loop-left.invariant

pub loop-left-preserved : goal.loop-left-preserved
loop-left-preserved g c =
    each_step g.C.Cells.ops c.args.runs.now (elements c.args.put.now) c.args.slots (bits_before c.args.runs.now c.args.spot) c.args.count c.loop-left.left (c.stretch_at-next.result.size * c.stretch_at-next.result.repeats) c.loop-left.at c.walk-at.result c.args.out.now.items c.loop-left.out.items c.push_times.new.out.items c.stretch_at-next.ensures.again.most
    (stretch_made g.C.Cells.ops c.args.runs.now c.weaken_each.new.out.items c.deref.result.now (elements c.args.put.now) c.args.slots (bits_before c.args.runs.now c.loop-left.at) c.loop-left.left
    c.stretch_at-next.result.size c.stretch_at-next.result.repeats c.new-made.result.items c.loop-left.out.items c.push_times.new.out.items c.stretch_at-next.ensures.again c.new-made.ensures.items c.deref.ensures.value
    c.in_ok-weaken_each.ensures c.in_ok-push_times.ensures)
    c.walk-at.ensures c.loop-left.invariant

pub returns : goal.returns
returns g c = each_end g.C.Cells.ops c.args.runs.now (elements c.args.put.now) c.args.slots (bits_before c.args.runs.now c.args.spot) c.args.count c.loop-left.left c.loop-left.at c.args.out.now.items c.loop-left.out.items (omega arith) c.loop-left.invariant
