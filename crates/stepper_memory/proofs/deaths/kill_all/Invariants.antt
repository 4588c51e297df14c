use Rattle.std.proofs.Common.{◌≡◌, ◌≤◌, ◌+◌, drop}
use Rattle.std.specs.List.{AllByRecursion}
use Rattle.c_memory.specs.Memories.{died}
use Rattle.stepper_memory.specs.Views.{memory_of, AllBefore}
use Rattle.stepper_memory.proofs.deaths.kill_all.Given as goal

abbrev pub invariant-loop-base : goal.invariant-loop-base
invariant-loop-base l =
    (died (drop l.base-index l.bases) (memory_of l.deaths l.table.items) ≡ died l.bases (memory_of l.initial.deaths l.initial.table.items))
    × (AllBefore l.before l.table.items × AllByRecursion (λ d. d ≤ l.before + 1) l.deaths)
