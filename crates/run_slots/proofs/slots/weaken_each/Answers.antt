use Rattle.std.proofs.Common.{◌+◌, arith}
use Rattle.cell_runs.specs.Runs.{elements}
use Rattle.cell_runs.proofs.Taking.{tail_is}
use Rattle.run_slots.specs.Walks.{bits_before}
use Rattle.run_slots.proofs.Walking.{tail_runs, tail_fits, at_before}
use Rattle.run_slots.proofs.Weakening.{each_begin, each_fits, each_at, each_step, each_end, one_slot, one_behind}
use Rattle.run_slots.proofs.slots.weaken_each.Goals as goal

pub loop-left-init : goal.loop-left-init
loop-left-init g c = each_begin g.C.Cells.ops c.args.runs.now (elements c.args.put.now) c.args.slots c.args.count c.args.spot c.args.out.now.items c.requires.spot

pub weaken_slot-requires-clause-spot : goal.weaken_slot-requires-clause-spot
weaken_slot-requires-clause-spot g c = each_at g.C.Cells.ops c.args.runs.now (elements c.args.put.now) c.args.slots (bits_before c.args.runs.now c.args.spot) c.args.count c.loop-left.left c.loop-left.at c.args.out.now.items c.loop-left.out.items c.loop-left.invariant

pub weaken_slot-requires-clause-enough : goal.weaken_slot-requires-clause-enough
weaken_slot-requires-clause-enough g c =
    let f = each_fits g.C.Cells.ops c.args.runs.now (elements c.args.put.now) c.args.slots (bits_before c.args.runs.now c.args.spot) c.args.count c.loop-left.left 1
    c.loop-left.at c.args.out.now.items c.loop-left.out.items (omega arith) c.requires.enough c.loop-left.invariant in
    omega arith

pub walk-behind-requires-clause-spot : goal.walk-behind-requires-clause-spot
walk-behind-requires-clause-spot g c = each_at g.C.Cells.ops c.args.runs.now (elements c.args.put.now) c.args.slots (bits_before c.args.runs.now c.args.spot) c.args.count c.loop-left.left c.loop-left.at c.args.out.now.items c.loop-left.out.items c.loop-left.invariant

pub walk-behind-requires-clause-enough : goal.walk-behind-requires-clause-enough
walk-behind-requires-clause-enough g c =
    let f = each_fits g.C.Cells.ops c.args.runs.now (elements c.args.put.now) c.args.slots (bits_before c.args.runs.now c.args.spot) c.args.count c.loop-left.left 1
    c.loop-left.at c.args.out.now.items c.loop-left.out.items (omega arith) c.requires.enough c.loop-left.invariant in
    omega arith

pub copy_part-requires-clause-some : goal.copy_part-requires-clause-some
copy_part-requires-clause-some g c = (tail_runs g.C.Cells.fine c.args.runs.now _ c.walk-behind.result.index (tail_is c.args.runs.now c.walk-behind.result.index) c.requires.runs).some

pub copy_part-requires-clause-fine : goal.copy_part-requires-clause-fine
copy_part-requires-clause-fine g c = (tail_runs g.C.Cells.fine c.args.runs.now _ c.walk-behind.result.index (tail_is c.args.runs.now c.walk-behind.result.index) c.requires.runs).fine

pub copy_part-requires-clause-small : goal.copy_part-requires-clause-small
copy_part-requires-clause-small g c = (tail_runs g.C.Cells.fine c.args.runs.now _ c.walk-behind.result.index (tail_is c.args.runs.now c.walk-behind.result.index) c.requires.runs).small

pub copy_part-requires-clause-inside : goal.copy_part-requires-clause-inside
copy_part-requires-clause-inside g c =
    let f = each_fits g.C.Cells.ops c.args.runs.now (elements c.args.put.now) c.args.slots (bits_before c.args.runs.now c.args.spot) c.args.count c.loop-left.left 1
    c.loop-left.at c.args.out.now.items c.loop-left.out.items (omega arith) c.requires.enough c.loop-left.invariant in
    tail_fits c.args.runs.now _ (bits_before c.args.runs.now c.loop-left.at + c.args.slots.bits) c.args.slots.gap c.walk-behind.result (tail_is c.args.runs.now c.walk-behind.result.index) c.walk-behind.ensures (omega arith)

pub walk-at-requires-clause-spot : goal.walk-at-requires-clause-spot
walk-at-requires-clause-spot g c = at_before c.args.runs.now (bits_before c.args.runs.now c.loop-left.at + c.args.slots.bits) c.walk-behind.result c.walk-behind.ensures

pub walk-at-requires-clause-enough : goal.walk-at-requires-clause-enough
walk-at-requires-clause-enough g c =
    let f = each_fits g.C.Cells.ops c.args.runs.now (elements c.args.put.now) c.args.slots (bits_before c.args.runs.now c.args.spot) c.args.count c.loop-left.left 1
    c.loop-left.at c.args.out.now.items c.loop-left.out.items (omega arith) c.requires.enough c.loop-left.invariant in
    let b = c.walk-behind.ensures.before in
    omega arith

pub loop-left-preserved : goal.loop-left-preserved
loop-left-preserved g c =
    each_step g.C.Cells.ops c.args.runs.now (elements c.args.put.now) c.args.slots (bits_before c.args.runs.now c.args.spot) c.args.count c.loop-left.left 1 c.loop-left.at c.walk-at.result c.args.out.now.items c.loop-left.out.items c.copy_part.new.out.items (omega arith)
    (one_slot g.C.Cells.ops c.args.runs.now _ (elements c.args.put.now) c.args.slots c.loop-left.at c.walk-behind.result c.loop-left.out.items c.weaken_slot.new.out.items c.copy_part.new.out.items c.requires.runs.some
    c.walk-behind.ensures (tail_is c.args.runs.now c.walk-behind.result.index) c.in_ok-weaken_slot.ensures c.in_ok-copy_part.ensures)
    (one_behind g.C.Cells.ops c.args.runs.now c.args.slots c.loop-left.at c.walk-behind.result c.walk-at.result c.walk-behind.ensures c.walk-at.ensures) c.loop-left.invariant

pub returns : goal.returns
returns g c = (each_end g.C.Cells.ops c.args.runs.now (elements c.args.put.now) c.args.slots (bits_before c.args.runs.now c.args.spot) c.args.count c.loop-left.left c.loop-left.at c.args.out.now.items c.loop-left.out.items (omega arith) c.loop-left.invariant).extends
