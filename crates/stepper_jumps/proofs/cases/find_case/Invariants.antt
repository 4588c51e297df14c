use Rattle.std.proofs.Common.{◌≡◌, ◌≤◌, ◌-◌, List, length}
use Rattle.c_machine.specs.Jumps.{at_case_in}
use Rattle.c_machine.specs.Work.{Work}
use Rattle.stepper_jumps.proofs.cases.find_case.Given as goal
use Rattle.stepper_jumps.specs.Found.{listed_from}

abbrev pub invariant-search : goal.invariant-search
invariant-search l =
    (l.n ≤ length l.fn.stmts)
    × ((rest : List Work) → at_case_in l.fn.value (listed_from 0 l.fn.stmts) rest ≡ at_case_in l.fn.value (listed_from l.n l.fn.stmts) rest)

abbrev pub decreases-search : goal.decreases-search
decreases-search l = length l.fn.stmts - l.n
