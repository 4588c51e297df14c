use Rattle.std.proofs.Common.{◌≡◌, length}
use Rattle.c_machine.specs.Jumps.{jump_behind}
use Rattle.stepper_work.specs.Views.{control_of}
use Rattle.stepper_exits.proofs.exits.break_out.Given as goal

abbrev pub invariant-loop-work : goal.invariant-loop-work
invariant-loop-work l = jump_behind l.initial.dying (control_of l.initial.control) ≡ jump_behind l.dying (control_of l.control)

abbrev pub decreases-loop-work : goal.decreases-loop-work
decreases-loop-work l = length l.control
