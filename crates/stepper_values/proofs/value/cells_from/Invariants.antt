use Rattle.std.proofs.Common.{◌≡◌, ◌++◌, ◌-◌, map}
use Rattle.c_base.specs.Integers.{bits_from}
use Rattle.c_memory.specs.Values.{cells_from}
use Rattle.stepper_values.specs.Views.{cell_of, bases_of}
use Rattle.stepper_values.proofs.value.cells_from.Given as goal

-- what is written, and what is still to be written
abbrev pub invariant-loop-index : goal.invariant-loop-index
invariant-loop-index l =
    cells_from (bases_of l.bases) 0 (bits_from l.initial.rest l.bits)
    ≡ map cell_of l.cells ++ cells_from (bases_of l.bases) l.index (bits_from l.rest (l.bits - l.index))
