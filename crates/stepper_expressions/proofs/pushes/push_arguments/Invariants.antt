use Rattle.std.proofs.Common.{◌≡◌, ◌≤◌, length}
use Rattle.stepper_expressions.proofs.Lists.{arguments_from}
use Rattle.stepper_work.specs.Views.{control_of}
use Rattle.stepper_expressions.proofs.pushes.push_arguments.Given as goal

abbrev pub invariant-loop-next : goal.invariant-loop-next
invariant-loop-next l =
    (l.next ≤ length l.fn.arguments) × (control_of l.control ≡ arguments_from l.fn.arguments l.next (control_of l.initial.control))

abbrev pub decreases-loop-next : goal.decreases-loop-next
decreases-loop-next l = l.next
