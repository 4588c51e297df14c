use Rattle.run_places.proofs.TakingIn.{skip_range, skip_step}
use Rattle.run_places.proofs.spots.skip_bits.Goals as goal

pub step_along-count-requires-clause-inside : goal.step_along-count-requires-clause-inside
step_along-count-requires-clause-inside g c = skip_range c.args.runs.now c.args.spot c.args.bits c.loop-left.at c.loop-left.left c.loop-left-test.true c.loop-left.invariant

pub loop-left-preserved : goal.loop-left-preserved
loop-left-preserved g c =
    skip_step c.args.runs.now c.args.spot c.args.bits c.loop-left.at c.loop-left.left c.step_along-count.result c.step_along-count.ensures c.loop-left.invariant
