use Rattle.run_places.proofs.Adding.{AddsOn}
use Rattle.run_places.proofs.repeats.push_each.Given as goal

abbrev pub invariant-loop-left : goal.invariant-loop-left
invariant-loop-left g l = AddsOn l.runs l.count l.left l.initial.out.items l.out.items

abbrev pub decreases-loop-left : goal.decreases-loop-left
decreases-loop-left g l = l.left
