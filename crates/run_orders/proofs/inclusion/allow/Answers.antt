use Rattle.std.proofs.Common.{arith, sym, ◌∙◌}
use Rattle.run_orders.proofs.Including.{run_begin, run_step, run_fail, run_end}
use Rattle.run_orders.proofs.inclusion.allow.Goals as goal

pub loop-left-init : goal.loop-left-init
loop-left-init g c = run_begin g.C.Cells.ops c.args.runs.now c.args.spot c.args.run.now c.requires.enough c.requires.spot

pub returns-then-not-allow_few : goal.returns-then-not-allow_few
returns-then-not-allow_few g c = λ fs.
    run_fail g.C.Cells.ops c.args.runs.now c.args.spot c.args.run.now c.loop-left.at c.loop-left.left c.chunk_at-next.result fs c.chunk_at-next.ensures (sym c.allow_few.ensures ∙ c.if-not-allow_few.true) c.loop-left.invariant

pub loop-left-preserved : goal.loop-left-preserved
loop-left-preserved g c =
    run_step g.C.Cells.ops c.args.runs.now c.args.spot c.args.run.now c.loop-left.at c.loop-left.left c.chunk_at-next.result c.chunk_at-next.ensures (sym c.allow_few.ensures ∙ c.if-not-allow_few.false) c.loop-left.invariant

pub returns : goal.returns
returns g c = run_end g.C.Cells.ops c.args.runs.now c.args.spot c.args.run.now c.loop-left.at c.loop-left.left (omega arith) c.loop-left.invariant
