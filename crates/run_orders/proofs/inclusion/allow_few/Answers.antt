use Rattle.std.proofs.Common.{arith, sym, ◌∙◌}
use Rattle.run_orders.proofs.Including.{few_begin, few_fits, few_stop, few_step, few_end}
use Rattle.run_orders.proofs.inclusion.allow_few.Goals as goal

pub loop-left-init : goal.loop-left-init
loop-left-init g c = few_begin g.C.Cells.ops c.args.runs.now c.args.spot c.args.run.now c.args.count c.requires.enough c.requires.spot

pub is_in-requires-clause-enough : goal.is_in-requires-clause-enough
is_in-requires-clause-enough g c =
    few_fits g.C.Cells.ops c.args.runs.now c.args.spot c.args.run.now c.args.count c.loop-left.at c.loop-left.left c.loop-left-test.true c.loop-left.invariant

pub returns-then-not-is_in : goal.returns-then-not-is_in
returns-then-not-is_in g c =
    few_stop g.C.Cells.ops c.args.runs.now c.args.spot c.args.run.now c.args.count c.loop-left.at c.loop-left.left c.loop-left-test.true (sym c.is_in.ensures ∙ c.if-not-is_in.true) c.loop-left.invariant

pub skip_bits-at-requires-clause-enough : goal.skip_bits-at-requires-clause-enough
skip_bits-at-requires-clause-enough g c =
    few_fits g.C.Cells.ops c.args.runs.now c.args.spot c.args.run.now c.args.count c.loop-left.at c.loop-left.left c.loop-left-test.true c.loop-left.invariant

pub loop-left-preserved : goal.loop-left-preserved
loop-left-preserved g c =
    few_step g.C.Cells.ops c.args.runs.now c.args.spot c.args.run.now c.args.count c.loop-left.at c.skip_bits-at.result c.loop-left.left c.loop-left-test.true (sym c.is_in.ensures ∙ c.if-not-is_in.false)
    c.skip_bits-at.ensures.ahead c.skip_bits-at.ensures.spot c.loop-left.invariant

pub returns : goal.returns
returns g c = few_end g.C.Cells.ops c.args.runs.now c.args.spot c.args.run.now c.args.count c.loop-left.at c.loop-left.left (omega arith) c.loop-left.invariant
