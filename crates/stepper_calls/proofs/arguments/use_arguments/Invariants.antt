use Rattle.std.proofs.Common.{◌≡◌, map, length}
use Rattle.c_machine.specs.Parts.{used_arguments}
use Rattle.stepper_values.specs.Views.{held_of}
use Rattle.stepper_calls.specs.Arguments.{behind_used}
use Rattle.stepper_calls.proofs.arguments.use_arguments.Given as goal

abbrev pub invariant-loop-next : goal.invariant-loop-next
invariant-loop-next l = used_arguments (map held_of l.initial.held) ≡ behind_used l.used (used_arguments (map held_of l.held))

abbrev pub decreases-loop-next : goal.decreases-loop-next
decreases-loop-next l = length l.held
