use Rattle.std.proofs.Common.{arith, sym, ◌∙◌}
use Rattle.run_places.proofs.Passing.{pass_range, pass_step, pass_stop, spot_cell}
use Rattle.run_places.proofs.places.all_pass.Goals as goal

pub offset_bounds-runs-at : goal.offset_bounds-runs-at
offset_bounds-runs-at g c =
    let h = pass_range (g.T.Test.passes c.args.test.now) c.args.runs.now c.args.spot c.args.bits c.loop-left.at c.loop-left.left c.loop-left-test.true c.loop-left.invariant in omega arith

pub bounds-runs-at : goal.bounds-runs-at
bounds-runs-at g c = pass_range (g.T.Test.passes c.args.test.now) c.args.runs.now c.args.spot c.args.bits c.loop-left.at c.loop-left.left c.loop-left-test.true c.loop-left.invariant

pub returns-then-not-test : goal.returns-then-not-test
returns-then-not-test g c =
    let h = pass_range (g.T.Test.passes c.args.test.now) c.args.runs.now c.args.spot c.args.bits c.loop-left.at c.loop-left.left c.loop-left-test.true c.loop-left.invariant in
    pass_stop (g.T.Test.passes c.args.test.now) c.args.runs.now c.args.spot c.args.bits c.loop-left.at c.loop-left.left c.index-runs-at.result.cell c.loop-left-test.true
    (spot_cell (g.T.Test.passes c.args.test.now) c.args.runs.now c.loop-left.at c.index-runs-at.result h c.index-runs-at.is c.loop-left.invariant.spot)
    (sym c.test.ensures ∙ c.if-not-test.true) c.loop-left.invariant

pub step_along-count-requires-clause-inside : goal.step_along-count-requires-clause-inside
step_along-count-requires-clause-inside g c =
    pass_range (g.T.Test.passes c.args.test.now) c.args.runs.now c.args.spot c.args.bits c.loop-left.at c.loop-left.left c.loop-left-test.true c.loop-left.invariant

pub loop-left-preserved : goal.loop-left-preserved
loop-left-preserved g c =
    let h = pass_range (g.T.Test.passes c.args.test.now) c.args.runs.now c.args.spot c.args.bits c.loop-left.at c.loop-left.left c.loop-left-test.true c.loop-left.invariant in
    pass_step (g.T.Test.passes c.args.test.now) c.args.runs.now c.args.spot c.args.bits c.loop-left.at c.loop-left.left c.step_along-count.result c.index-runs-at.result h c.index-runs-at.is
    c.step_along-count.ensures (sym c.test.ensures ∙ c.if-not-test.false) c.loop-left.invariant
