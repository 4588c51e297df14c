use Rattle.std.proofs.Common.{◌≡◌, ◌-◌, length, drop}
use Rattle.c_types.specs.Compatible.{are_compatible}
use Rattle.c_types.specs.Views.{types_of}
use Rattle.c_types.proofs.+comparing.Given as goal

abbrev pub invariant-compatible::compatible_lists-loop-at : goal.invariant-compatible::compatible_lists-loop-at
invariant-compatible::compatible_lists-loop-at l = are_compatible (types_of (drop l.at l.a)) (types_of (drop l.at l.b)) ≡ are_compatible (types_of l.a) (types_of l.b)

abbrev pub decreases-compatible::compatible_lists-loop-at : goal.decreases-compatible::compatible_lists-loop-at
decreases-compatible::compatible_lists-loop-at l = length l.a - l.at
