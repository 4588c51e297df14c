use Rattle.std.proofs.Common.{◌≡◌, map}
use Rattle.c_machine.specs.Parts.{split_held}
use Rattle.stepper_values.specs.Views.{held_of}
use Rattle.stepper_calls.proofs.arguments.split.Given as goal

abbrev pub invariant-loop-left : goal.invariant-loop-left
invariant-loop-left l =
    split_held l.fn.count (map held_of l.initial.last) (map held_of l.initial.held) ≡ split_held l.left (map held_of l.last) (map held_of l.held)

abbrev pub decreases-loop-left : goal.decreases-loop-left
decreases-loop-left l = l.left
