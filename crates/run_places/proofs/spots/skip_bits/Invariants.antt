use Rattle.run_places.proofs.TakingIn.{SkipsOn}
use Rattle.run_places.proofs.spots.skip_bits.Given as goal

abbrev pub invariant-loop-left : goal.invariant-loop-left
invariant-loop-left g l = SkipsOn l.runs l.initial.at l.bits l.at l.left

abbrev pub decreases-loop-left : goal.decreases-loop-left
decreases-loop-left g l = l.left
