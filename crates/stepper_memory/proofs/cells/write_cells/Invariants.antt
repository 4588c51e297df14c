use Rattle.std.proofs.Common.{◌≡◌, ◌+◌, drop}
use Rattle.std.specs.List.{AllByRecursion}
use Rattle.stepper_memory.specs.Views.{IsBefore}
use Rattle.stepper_memory.proofs.Written.{Writes}
use Rattle.stepper_memory.proofs.cells.write_cells.Given as goal

abbrev pub invariant-loop-cell : goal.invariant-loop-cell
invariant-loop-cell l =
    (l.at ≡ l.first + l.cell-index)
    × (Writes l.now l.initial.cells l.first l.new l.cells l.at (drop l.cell-index l.new)
    × (AllByRecursion (IsBefore l.now) l.initial.cells → AllByRecursion (IsBefore l.now) l.cells))
