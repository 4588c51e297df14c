use Rattle.std.proofs.Common.{◌≡◌, ◌≤◌, ◌+◌, ◌-◌, ℕ, List, Option, length}
use Rattle.std.specs.List.{AllByRecursion}
use Rattle.stepper_memory.specs.declared.stored.Stored.{Stored}
use Rattle.stepper_memory.specs.Views.{memory_of}
use Rattle.stepper_memory.proofs.deaths.grow_deaths.Given as goal

abbrev pub invariant-loop-deaths : goal.invariant-loop-deaths
invariant-loop-deaths l =
    ((table : List (Option (List Stored))) → memory_of l.deaths table ≡ memory_of l.initial.deaths table)
    × ((now : ℕ) → AllByRecursion (λ d. d ≤ now) l.initial.deaths → AllByRecursion (λ d. d ≤ now) l.deaths)

abbrev pub decreases-loop-deaths : goal.decreases-loop-deaths
decreases-loop-deaths l = l.base + 1 - length l.deaths
