use Rattle.std.proofs.Common.{◌≡◌, ◌++◌, take}
use Rattle.stepper_values.proofs.value.add_cells.Given as goal

abbrev pub invariant-loop-cell : goal.invariant-loop-cell
invariant-loop-cell l = l.out ≡ l.initial.out ++ take l.cell-index l.cells
