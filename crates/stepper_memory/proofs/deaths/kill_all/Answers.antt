use Rattle.std.proofs.Common.{arith, refl}
use Rattle.stepper_memory.proofs.Dying.{deaths_next, deaths_done}
use Rattle.stepper_memory.proofs.deaths.kill_all.Goals as goal

pub loop-base-preserved : goal.loop-base-preserved
loop-base-preserved c =
    let i = c.loop-base.invariant in (
      deaths_next c.args.bases.now c.loop-base.base-index _ _ _ _ (omega arith) refl i.0 c.in_ok-kill.ensures.done,
      (c.kill.ensures.older, c.kill.ensures.times),
    )

pub returns-clause-done : goal.returns-clause-done
returns-clause-done c = deaths_done c.args.bases.now c.loop-base.base-index _ _ (omega arith) c.loop-base.invariant.0
