use Rattle.std.proofs.Common.{◌+◌, arith}
use Rattle.cell_runs.proofs.Taking.{small_at}
use Rattle.run_slots.specs.Walks.{bits_before}
use Rattle.run_slots.proofs.Walking.{before_is, walk_begin, walk_step, walk_found, walk_end}
use Rattle.run_slots.proofs.walk.walk.Goals as goal

pub overflow_add-left : goal.overflow_add-left
overflow_add-left g c = let b = before_is c.args.runs.now c.args.spot in let e = c.requires.enough in let s = c.requires.small in omega arith

pub loop-index-init : goal.loop-index-init
loop-index-init g c = walk_begin c.args.runs.now c.args.spot c.args.n c.requires.spot c.requires.enough

pub overflow_mul-bits : goal.overflow_mul-bits
overflow_mul-bits g c = let h = small_at c.args.runs.now c.loop-index.index c.index-runs-index.result c.loop-index-test.true c.index-runs-index.is c.requires.small in omega arith

pub returns-then-left-bits : goal.returns-then-left-bits
returns-then-left-bits g c =
    walk_found c.args.runs.now (bits_before c.args.runs.now c.args.spot + c.args.n) c.loop-index.index c.loop-index.left c.index-runs-index.result c.loop-index-test.true c.index-runs-index.is c.if-left-bits.true
    c.loop-index.invariant

pub loop-index-preserved : goal.loop-index-preserved
loop-index-preserved g c =
    walk_step c.args.runs.now (bits_before c.args.runs.now c.args.spot + c.args.n) c.loop-index.index c.loop-index.left c.index-runs-index.result c.loop-index-test.true c.index-runs-index.is (omega arith)
    c.loop-index.invariant

pub returns : goal.returns
returns g c = walk_end c.args.runs.now (bits_before c.args.runs.now c.args.spot + c.args.n) c.loop-index.index c.loop-index.left (omega arith) c.loop-index.invariant
