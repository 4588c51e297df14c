use Rattle.std.proofs.Common.{arith}
use Rattle.cell_runs.proofs.Taking.{fine_at}
use Rattle.run_places.proofs.TakingIn.{taken_yes, taken_no, all_begin, all_fits, all_step, all_fail, all_end}
use Rattle.run_places.proofs.taking.with_all.Goals as goal

pub loop-i-init : goal.loop-i-init
loop-i-init g c =
    all_begin g.C.Cells.ops (g.M.Merge.merged c.args.merge.now) c.args.first.now c.args.second.now c.args.out.now.items c.requires.first.some c.requires.even

pub with_run-requires-clause-fine : goal.with_run-requires-clause-fine
with_run-requires-clause-fine g c =
    fine_at g.C.Cells.fine c.args.second.now c.loop-i.i c.index-second-i.result c.loop-i-test.true c.index-second-i.is c.requires.second.some c.requires.second.fine

pub with_run-requires-clause-enough : goal.with_run-requires-clause-enough
with_run-requires-clause-enough g c =
    all_fits g.C.Cells.ops (g.M.Merge.merged c.args.merge.now) c.args.first.now c.args.second.now c.loop-i.spot c.loop-i.i c.args.out.now.items c.loop-i.out.items c.index-second-i.result
    c.loop-i-test.true c.index-second-i.is c.loop-i.invariant

pub returns-then-not-branch : goal.returns-then-not-branch
returns-then-not-branch g c =
    all_fail g.C.Cells.ops (g.M.Merge.merged c.args.merge.now) c.args.first.now c.args.second.now c.loop-i.spot c.loop-i.i c.args.out.now.items c.loop-i.out.items c.index-second-i.result
    c.loop-i-test.true c.index-second-i.is (taken_no g.C.Cells.ops (g.M.Merge.merged c.args.merge.now) _ _ _ c.loop-i.out.items c.with_run.new.out.items c.in_ok-with_run.field-0 c.if-not-branch.true
    c.in_ok-with_run.ensures.taken) c.loop-i.invariant

pub loop-i-preserved : goal.loop-i-preserved
loop-i-preserved g c =
    all_step g.C.Cells.ops (g.M.Merge.merged c.args.merge.now) c.args.first.now c.args.second.now c.loop-i.spot c.with_run.new.spot c.loop-i.i c.args.out.now.items c.loop-i.out.items c.with_run.new.out.items
    c.index-second-i.result c.loop-i-test.true c.index-second-i.is c.in_ok-with_run.ensures.spot
    (taken_yes g.C.Cells.ops (g.M.Merge.merged c.args.merge.now) _ _ _ c.loop-i.out.items c.with_run.new.out.items c.in_ok-with_run.field-0 c.if-not-branch.false c.in_ok-with_run.ensures.taken)
    c.loop-i.invariant

pub returns : goal.returns
returns g c =
    all_end g.C.Cells.ops (g.M.Merge.merged c.args.merge.now) c.args.first.now c.args.second.now c.loop-i.spot c.loop-i.i c.args.out.now.items c.loop-i.out.items (omega arith) c.loop-i.invariant
