use Rattle.std.proofs.Common.{arith}
use Rattle.cell_runs.proofs.Taking.{some_at, small_at}
use Rattle.run_orders.proofs.Leaving.{leave_begin, leave_step, leave_end}
use Rattle.run_orders.proofs.deaths.leave_all.Goals as goal

pub loop-i-init : goal.loop-i-init
loop-i-init g c = leave_begin g.C.Cells.ops (g.D.Death.left c.args.death.now) c.args.runs.now c.args.out.now.items

pub loop-i-preserved : goal.loop-i-preserved
loop-i-preserved g c =
    leave_step g.C.Cells.ops (g.D.Death.left c.args.death.now) c.args.runs.now c.loop-i.i c.index-runs-i.result c.args.out.now.items c.loop-i.out.items c.leave_run.new.out.items c.loop-i-test.true
    c.index-runs-i.is c.in_ok-leave_run.ensures c.loop-i.invariant

pub returns : goal.returns
returns g c = leave_end g.C.Cells.ops (g.D.Death.left c.args.death.now) c.args.runs.now c.loop-i.i c.args.out.now.items c.loop-i.out.items (omega arith) c.loop-i.invariant

pub leave_run-requires-clause-bits : goal.leave_run-requires-clause-bits
leave_run-requires-clause-bits g c = (some_at c.args.runs.now c.loop-i.i c.index-runs-i.result c.loop-i-test.true c.index-runs-i.is c.requires.some).0

pub leave_run-requires-clause-count : goal.leave_run-requires-clause-count
leave_run-requires-clause-count g c = (some_at c.args.runs.now c.loop-i.i c.index-runs-i.result c.loop-i-test.true c.index-runs-i.is c.requires.some).1

pub leave_run-requires-clause-small : goal.leave_run-requires-clause-small
leave_run-requires-clause-small g c = small_at c.args.runs.now c.loop-i.i c.index-runs-i.result c.loop-i-test.true c.index-runs-i.is c.requires.small
