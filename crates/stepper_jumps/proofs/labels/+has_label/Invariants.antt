use Rattle.std.proofs.Common.{◌≡◌, ◌≤◌}
use Rattle.stepper_jumps.proofs.labels.+has_label.Given as goal
use Rattle.stepper_jumps.specs.Searches.{labelled, size}
use Rattle.stepper_shapes.specs.Views.{statement_of}

abbrev pub decreases-has_label : goal.decreases-has_label
decreases-has_label l = size (statement_of l.s)

abbrev pub invariant-search : goal.invariant-search
invariant-search l =
    (labelled l.name (statement_of l.here) ≡ labelled l.name (statement_of l.s)) × (size (statement_of l.here) ≤ size (statement_of l.s))

abbrev pub decreases-search : goal.decreases-search
decreases-search l = size (statement_of l.here)
