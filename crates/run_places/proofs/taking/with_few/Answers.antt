use Rattle.std.proofs.Common.{arith, sym, ◌∙◌}
use Rattle.run_places.proofs.TakingIn.{few_begin, few_fits, few_step, few_stop, few_end}
use Rattle.run_places.proofs.taking.with_few.Goals as goal

pub loop-left-init : goal.loop-left-init
loop-left-init g c = few_begin g.C.Cells.ops (g.M.Merge.merged c.args.merge.now) c.args.runs.now c.args.spot c.args.run.now c.args.count c.args.out.now.items c.requires.enough c.requires.spot

pub with_places-requires-clause-enough : goal.with_places-requires-clause-enough
with_places-requires-clause-enough g c =
    few_fits g.C.Cells.ops (g.M.Merge.merged c.args.merge.now) c.args.runs.now c.args.spot c.args.run.now c.args.count c.loop-left.at c.loop-left.left c.args.out.now.items c.loop-left.out.items
    c.loop-left-test.true c.loop-left.invariant

pub returns-in_default : goal.returns-in_default
returns-in_default g c =
    few_stop g.C.Cells.ops (g.M.Merge.merged c.args.merge.now) c.args.runs.now c.args.spot c.args.run.now c.args.count c.loop-left.at c.loop-left.left c.args.out.now.items c.loop-left.out.items
    c.loop-left-test.true (sym c.in_default.is ∙ c.in_ok-cell.ensures) c.loop-left.invariant

pub skip_bits-at-requires-clause-enough : goal.skip_bits-at-requires-clause-enough
skip_bits-at-requires-clause-enough g c =
    few_fits g.C.Cells.ops (g.M.Merge.merged c.args.merge.now) c.args.runs.now c.args.spot c.args.run.now c.args.count c.loop-left.at c.loop-left.left c.args.out.now.items c.loop-left.out.items
    c.loop-left-test.true c.loop-left.invariant

pub loop-left-preserved : goal.loop-left-preserved
loop-left-preserved g c =
    few_step g.C.Cells.ops (g.M.Merge.merged c.args.merge.now) c.args.runs.now c.args.spot c.args.run.now c.args.count c.loop-left.at c.skip_bits-at.result c.loop-left.left c.args.out.now.items c.loop-left.out.items
    c.push.new.out.items c.in-Some.cell c.loop-left-test.true (sym c.in-Some.is ∙ c.in_ok-cell.ensures) c.in_ok-push.ensures c.skip_bits-at.ensures.ahead c.skip_bits-at.ensures.spot c.loop-left.invariant

pub returns : goal.returns
returns g c =
    few_end g.C.Cells.ops (g.M.Merge.merged c.args.merge.now) c.args.runs.now c.args.spot c.args.run.now c.args.count c.loop-left.at c.loop-left.left c.args.out.now.items c.loop-left.out.items (omega arith) c.loop-left.invariant
