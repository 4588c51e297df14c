use Rattle.std.proofs.Common.{arith}
use Rattle.cell_runs.proofs.Taking.{small_at, seek_step, seek_end}
use Rattle.cell_runs.proofs.parts.locate.Goals as goal

pub overflow_mul-bits : goal.overflow_mul-bits
overflow_mul-bits g c = let h = small_at c.args.runs.now c.loop-i.i c.index-runs-i.result c.loop-i-test.true c.index-runs-i.is c.requires.small in omega arith

pub loop-i-preserved : goal.loop-i-preserved
loop-i-preserved g c =
    seek_step g.C.Cells.ops c.args.runs.now c.args.n c.loop-i.i c.loop-i.left c.index-runs-i.result c.requires.some c.loop-i-test.true c.index-runs-i.is (omega arith) c.loop-i.invariant

pub returns : goal.returns
returns g c = seek_end g.C.Cells.ops c.args.runs.now c.args.n c.loop-i.i c.loop-i.left (omega arith) c.loop-i.invariant
