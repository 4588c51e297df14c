use Rattle.run_places.proofs.Passing.{PassesOn}
use Rattle.run_places.proofs.places.all_pass.Given as goal

abbrev pub invariant-loop-left : goal.invariant-loop-left
invariant-loop-left g l = PassesOn (g.T.Test.passes l.test) l.runs l.initial.at l.bits l.at l.left

abbrev pub decreases-loop-left : goal.decreases-loop-left
decreases-loop-left g l = l.left
