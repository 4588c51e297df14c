use Rattle.std.proofs.Common.{arith}
use Rattle.cell_runs.proofs.Taking.{small_at, fine_at, bits_at, takes_step, takes_all, takes_enough}
use Rattle.cell_runs.proofs.parts.take_runs.Goals as goal

pub returns-then-left-eq0 : goal.returns-then-left-eq0
returns-then-left-eq0 g c =
    takes_enough g.C.Cells.ops c.args.runs.now c.args.n c.loop-i.i c.loop-i.left c.args.out.now.items c.loop-i.out.items (omega arith) c.loop-i.invariant

pub overflow_mul-run : goal.overflow_mul-run
overflow_mul-run g c = let h = small_at c.args.runs.now c.loop-i.i c.index-runs-i.result c.loop-i-test.true c.index-runs-i.is c.requires.small in omega arith

pub take_run-requires-clause-fine : goal.take_run-requires-clause-fine
take_run-requires-clause-fine g c =
    fine_at g.C.Cells.fine c.args.runs.now c.loop-i.i c.index-runs-i.result c.loop-i-test.true c.index-runs-i.is c.requires.some c.requires.fine

pub take_run-requires-clause-bits : goal.take_run-requires-clause-bits
take_run-requires-clause-bits g c = bits_at c.args.runs.now c.loop-i.i c.index-runs-i.result c.loop-i-test.true c.index-runs-i.is c.requires.some

pub loop-i-preserved : goal.loop-i-preserved
loop-i-preserved g c =
    takes_step g.C.Cells.ops c.args.runs.now c.args.n c.loop-i.i c.loop-i.left c.min-taken.result c.args.out.now.items c.loop-i.out.items c.take_run.new.out.items c.index-runs-i.result
    c.requires.some c.loop-i-test.true c.index-runs-i.is c.min-taken.ensures c.loop-i.invariant c.in_ok-take_run.ensures

pub returns : goal.returns
returns g c =
    takes_all g.C.Cells.ops c.args.runs.now c.args.n c.loop-i.i c.loop-i.left c.args.out.now.items c.loop-i.out.items (omega arith) c.loop-i.invariant
