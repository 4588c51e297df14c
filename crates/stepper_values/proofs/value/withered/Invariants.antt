use Rattle.std.proofs.Common.{◌≡◌, map, take}
use Rattle.c_memory.specs.Values as values
use Rattle.stepper_values.specs.Views.{cell_of}
use Rattle.stepper_values.proofs.value.withered.Given as goal

abbrev pub invariant-loop-cell : goal.invariant-loop-cell
invariant-loop-cell l = map cell_of l.made ≡ map (values.wither l.dying) (map cell_of (take l.cell-index l.cells))
