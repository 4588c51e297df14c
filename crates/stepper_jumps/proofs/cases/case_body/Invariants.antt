use Rattle.std.proofs.Common.{◌≡◌, List}
use Rattle.c_machine.specs.Jumps.{at_case}
use Rattle.c_machine.specs.Work.{Work}
use Rattle.stepper_jumps.proofs.cases.case_body.Given as goal
use Rattle.stepper_jumps.specs.Searches.{size}
use Rattle.stepper_shapes.specs.Views.{statement_of}

abbrev pub invariant-search : goal.invariant-search
invariant-search l = (rest : List Work) → at_case l.fn.value (statement_of l.fn.s) rest ≡ at_case l.fn.value (statement_of l.here) rest

abbrev pub decreases-search : goal.decreases-search
decreases-search l = size (statement_of l.here)
