use Rattle.std.proofs.Common.{◌≡◌, true}
use Rattle.c_machine.specs.Jumps.{at_label}
use Rattle.stepper_jumps.proofs.labels.enter_label.Given as goal
use Rattle.stepper_jumps.specs.Searches.{labelled, size}
use Rattle.stepper_shapes.specs.Views.{statement_of}
use Rattle.stepper_work.specs.Views.{control_of}

abbrev pub invariant-search : goal.invariant-search
invariant-search l =
    (labelled l.fn.name (statement_of l.here) ≡ true)
    × (at_label l.fn.name (statement_of l.here) (control_of l.control) ≡ at_label l.fn.name (statement_of l.fn.s) (control_of l.initial.control))

abbrev pub decreases-search : goal.decreases-search
decreases-search l = size (statement_of l.here)
