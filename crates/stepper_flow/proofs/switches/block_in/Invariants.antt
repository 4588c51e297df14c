use Rattle.std.proofs.Common.{◌≡◌, List, ℤ}
use Rattle.c_machine.specs.Jumps.{selected}
use Rattle.c_machine.specs.Work.{Work}
use Rattle.stepper_flow.proofs.switches.block_in.Given as goal
use Rattle.stepper_jumps.specs.Searches.{size}
use Rattle.stepper_shapes.specs.Views.{statement_of}

abbrev pub invariant-search : goal.invariant-search
invariant-search l = (n : ℤ) (rest : List Work) → selected n (statement_of l.fn.s) rest ≡ selected n (statement_of l.here) rest

abbrev pub decreases-search : goal.decreases-search
decreases-search l = size (statement_of l.here)
