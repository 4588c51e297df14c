use Rattle.std.proofs.Common.{arith}
use Rattle.cell_runs.proofs.Taking.{fine_at}
use Rattle.run_places.proofs.Passing.{spot_cell}
use Rattle.run_places.proofs.Shading.{shade_range, shade_blank_at, shade_step, shade_end}
use Rattle.run_places.proofs.places.shade_all.Goals as goal

pub bounds-runs-at : goal.bounds-runs-at
bounds-runs-at g c =
    shade_range g.C.Cells.ops g.C.Cells.fine g.met.C.Cells.join_laws c.args.runs.now c.args.spot c.args.bits c.args.cell.now c.loop-left.at c.loop-left.left c.loop-left.shade c.loop-left-test.true
    c.loop-left.invariant

pub offset_bounds-runs-at : goal.offset_bounds-runs-at
offset_bounds-runs-at g c =
    let h = shade_range g.C.Cells.ops g.C.Cells.fine g.met.C.Cells.join_laws c.args.runs.now c.args.spot c.args.bits c.args.cell.now c.loop-left.at c.loop-left.left c.loop-left.shade
    c.loop-left-test.true c.loop-left.invariant in
    omega arith

pub with_flags-requires-clause-run : goal.with_flags-requires-clause-run
with_flags-requires-clause-run g c =
    let h = shade_range g.C.Cells.ops g.C.Cells.fine g.met.C.Cells.join_laws c.args.runs.now c.args.spot c.args.bits c.args.cell.now c.loop-left.at c.loop-left.left c.loop-left.shade
    c.loop-left-test.true c.loop-left.invariant in
    fine_at g.C.Cells.fine c.args.runs.now c.loop-left.at.index c.index-runs-at.result h c.index-runs-at.is c.requires.runs.some c.requires.runs.fine

pub with_flags-requires-clause-blank : goal.with_flags-requires-clause-blank
with_flags-requires-clause-blank g c =
    let h = shade_range g.C.Cells.ops g.C.Cells.fine g.met.C.Cells.join_laws c.args.runs.now c.args.spot c.args.bits c.args.cell.now c.loop-left.at c.loop-left.left c.loop-left.shade
    c.loop-left-test.true c.loop-left.invariant in
    shade_blank_at g.C.Cells.ops g.C.Cells.fine g.met.C.Cells.join_laws c.args.runs.now c.args.spot c.args.bits c.args.cell.now c.loop-left.at c.loop-left.left c.loop-left.shade
    c.index-runs-at.result.cell c.loop-left-test.true
    (spot_cell g.C.Cells.ops.blank c.args.runs.now c.loop-left.at c.index-runs-at.result h c.index-runs-at.is c.loop-left.invariant.spot) c.loop-left.invariant

pub step_along-count-requires-clause-inside : goal.step_along-count-requires-clause-inside
step_along-count-requires-clause-inside g c =
    shade_range g.C.Cells.ops g.C.Cells.fine g.met.C.Cells.join_laws c.args.runs.now c.args.spot c.args.bits c.args.cell.now c.loop-left.at c.loop-left.left c.loop-left.shade c.loop-left-test.true
    c.loop-left.invariant

pub loop-left-preserved : goal.loop-left-preserved
loop-left-preserved g c =
    let h = shade_range g.C.Cells.ops g.C.Cells.fine g.met.C.Cells.join_laws c.args.runs.now c.args.spot c.args.bits c.args.cell.now c.loop-left.at c.loop-left.left c.loop-left.shade
    c.loop-left-test.true c.loop-left.invariant in
    let f = fine_at g.C.Cells.fine c.args.runs.now c.loop-left.at.index c.index-runs-at.result h c.index-runs-at.is c.requires.runs.some c.requires.runs.fine in
    let b = shade_blank_at g.C.Cells.ops g.C.Cells.fine g.met.C.Cells.join_laws c.args.runs.now c.args.spot c.args.bits c.args.cell.now c.loop-left.at c.loop-left.left c.loop-left.shade
    c.index-runs-at.result.cell c.loop-left-test.true
    (spot_cell g.C.Cells.ops.blank c.args.runs.now c.loop-left.at c.index-runs-at.result h c.index-runs-at.is c.loop-left.invariant.spot) c.loop-left.invariant in
    shade_step g.C.Cells.ops g.C.Cells.fine g.met.C.Cells.join_laws c.args.runs.now c.args.spot c.args.bits c.args.cell.now c.loop-left.at c.loop-left.left c.loop-left.shade c.in_ok-shade-2.shade
    c.step_along-count.result c.index-runs-at.result c.loop-left-test.true h c.index-runs-at.is f b c.step_along-count.ensures c.in_ok-shade-2.ensures c.loop-left.invariant

pub returns : goal.returns
returns g c =
    shade_end g.C.Cells.ops g.C.Cells.fine g.met.C.Cells.join_laws c.args.runs.now c.args.spot c.args.bits c.args.cell.now c.loop-left.at c.loop-left.left c.loop-left.shade (omega arith)
    c.loop-left.invariant
