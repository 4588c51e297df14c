use Rattle.std.proofs.Common.{◌≡◌, ◌≤◌, length}
use Rattle.stepper_flow.proofs.InOrder.{items_from}
use Rattle.stepper_flow.proofs.initialisers.push_items.Given as goal
use Rattle.stepper_work.specs.Views.{control_of}

abbrev pub invariant-loop-next : goal.invariant-loop-next
invariant-loop-next l =
    (l.next ≤ length l.fn.items) × (control_of l.control ≡ items_from l.fn.base l.fn.items l.next (control_of l.initial.control))

abbrev pub decreases-loop-next : goal.decreases-loop-next
decreases-loop-next l = l.next
