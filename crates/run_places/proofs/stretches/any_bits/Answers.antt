use Rattle.std.proofs.Common.{arith}
use Rattle.run_places.proofs.Loose.{bits_begin, bits_second, bits_step, bits_end}
use Rattle.run_places.proofs.stretches.any_bits.Goals as goal

pub loop-s-init : goal.loop-s-init
loop-s-init g c =
    bits_begin g.C.Cells.ops (g.M.Merge.merged c.args.merge.now) c.args.first.now c.args.second.now c.args.out.now.items c.requires.first.some c.requires.second.some c.requires.even

pub returns : goal.returns
returns g c =
    bits_end g.C.Cells.ops (g.M.Merge.merged c.args.merge.now) c.args.first.now c.args.second.now c.loop-s.s c.loop-s.t c.args.out.now.items c.loop-s.out.items (omega arith) c.loop-s.invariant

pub bounds-second-t : goal.bounds-second-t
bounds-second-t g c =
    bits_second g.C.Cells.ops (g.M.Merge.merged c.args.merge.now) c.args.first.now c.args.second.now c.loop-s.s c.loop-s.t c.args.out.now.items c.loop-s.out.items c.step_along-most.result 18446744073709551615 (omega arith)
    c.step_along-most.ensures c.loop-s.invariant

pub offset_bounds-second-t : goal.offset_bounds-second-t
offset_bounds-second-t g c =
    let h = bits_second g.C.Cells.ops (g.M.Merge.merged c.args.merge.now) c.args.first.now c.args.second.now c.loop-s.s c.loop-s.t c.args.out.now.items c.loop-s.out.items c.step_along-most.result 18446744073709551615 (omega arith)
    c.step_along-most.ensures c.loop-s.invariant in
    omega arith

pub step_along-count-requires-clause-inside : goal.step_along-count-requires-clause-inside
step_along-count-requires-clause-inside g c =
    bits_second g.C.Cells.ops (g.M.Merge.merged c.args.merge.now) c.args.first.now c.args.second.now c.loop-s.s c.loop-s.t c.args.out.now.items c.loop-s.out.items c.step_along-most.result 18446744073709551615
    (omega arith) c.step_along-most.ensures c.loop-s.invariant

pub loop-s-smaller : goal.loop-s-smaller
loop-s-smaller g c =
    let t = bits_second g.C.Cells.ops (g.M.Merge.merged c.args.merge.now) c.args.first.now c.args.second.now c.loop-s.s c.loop-s.t c.args.out.now.items c.loop-s.out.items c.step_along-most.result 18446744073709551615
    (omega arith) c.step_along-most.ensures c.loop-s.invariant in
    (bits_step g.C.Cells.ops (g.M.Merge.merged c.args.merge.now) c.args.first.now c.args.second.now c.loop-s.s c.loop-s.t c.args.out.now.items c.loop-s.out.items c.push.new.out.items
    c.index-first-s.result c.index-second-t.result c.in_ok-cell.cell 18446744073709551615 c.step_along-most.result c.step_along-count.result c.step_along-after.result c.loop-s-test.true c.index-first-s.is
    t c.index-second-t.is (omega arith) c.step_along-most.ensures c.step_along-count.ensures c.step_along-after.ensures c.in_ok-cell.ensures c.in_ok-push.ensures c.loop-s.invariant).1

pub loop-s-preserved : goal.loop-s-preserved
loop-s-preserved g c =
    let t = bits_second g.C.Cells.ops (g.M.Merge.merged c.args.merge.now) c.args.first.now c.args.second.now c.loop-s.s c.loop-s.t c.args.out.now.items c.loop-s.out.items c.step_along-most.result 18446744073709551615
    (omega arith) c.step_along-most.ensures c.loop-s.invariant in
    (bits_step g.C.Cells.ops (g.M.Merge.merged c.args.merge.now) c.args.first.now c.args.second.now c.loop-s.s c.loop-s.t c.args.out.now.items c.loop-s.out.items c.push.new.out.items
    c.index-first-s.result c.index-second-t.result c.in_ok-cell.cell 18446744073709551615 c.step_along-most.result c.step_along-count.result c.step_along-after.result c.loop-s-test.true c.index-first-s.is
    t c.index-second-t.is (omega arith) c.step_along-most.ensures c.step_along-count.ensures c.step_along-after.ensures c.in_ok-cell.ensures c.in_ok-push.ensures c.loop-s.invariant).0
