use Rattle.std.proofs.Common.{◌≡◌, ◌-◌}
use Rattle.ival_arith.specs.Values.{with_places}
use Rattle.ival_arith.proofs.divisors.with_places.Given as goal

abbrev pub invariant-trying : goal.invariant-trying
invariant-trying l =
    with_places (l.count - l.at) 0 l.part l.format.signed l.format.width l.x l.run l.at l.all.shape ≡ with_places l.count 0 l.part l.format.signed l.format.width l.x l.run 0 l.set.shape

abbrev pub decreases-trying : goal.decreases-trying
decreases-trying l = l.count - l.at
