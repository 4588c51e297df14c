use Rattle.std.proofs.Common.{◌≡◌, length}
use Rattle.c_machine.specs.Work.{exit_of}
use Rattle.stepper_work.specs.Views.{control_of}
use Rattle.stepper_exits.proofs.exits.leave_function.Given as goal

abbrev pub invariant-loop-work : goal.invariant-loop-work
invariant-loop-work l = exit_of l.initial.dying (control_of l.initial.control) ≡ exit_of l.dying (control_of l.control)

abbrev pub decreases-loop-work : goal.decreases-loop-work
decreases-loop-work l = length l.control
