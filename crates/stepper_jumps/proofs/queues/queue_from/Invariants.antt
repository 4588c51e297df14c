use Rattle.std.proofs.Common.{◌≡◌, ◌≤◌, ◌-◌, length}
use Rattle.c_machine.specs.Work.{queued}
use Rattle.stepper_jumps.proofs.queues.queue_from.Given as goal
use Rattle.stepper_jumps.specs.Found.{listed_from}
use Rattle.stepper_work.specs.Views.{control_of}

abbrev pub invariant-loop-next : goal.invariant-loop-next
invariant-loop-next l =
    (l.next ≤ length l.fn.stmts) × (l.fn.n ≤ l.next) × (control_of l.control ≡ queued (listed_from l.next l.fn.stmts) (control_of l.initial.control))

abbrev pub decreases-loop-next : goal.decreases-loop-next
decreases-loop-next l = l.next - l.fn.n
