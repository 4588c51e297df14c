use Rattle.std.proofs.Common.{◌≡◌, ◌+◌, ◌-◌, ℕ, List, length}
use Rattle.stepper_memory.specs.Views.{memory_of, AllBefore}
use Rattle.stepper_memory.proofs.table.grow.Given as goal

abbrev pub invariant-loop-table : goal.invariant-loop-table
invariant-loop-table l =
    ((deaths : List ℕ) → memory_of deaths l.table.items ≡ memory_of deaths l.initial.table.items)
    × ((now : ℕ) → AllBefore now l.initial.table.items → AllBefore now l.table.items)

abbrev pub decreases-loop-table : goal.decreases-loop-table
decreases-loop-table l = l.base + 1 - length l.table.items
