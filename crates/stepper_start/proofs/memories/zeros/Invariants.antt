use Rattle.std.proofs.Common.{◌≡◌, map, replicate, false}
use Rattle.c_memory.specs.Values as values
use Rattle.stepper_values.specs.Views.{cell_of}
use Rattle.stepper_start.proofs.memories.zeros.Given as goal

abbrev pub invariant-loop : goal.invariant-loop
invariant-loop l = map cell_of l.cells ≡ replicate l.counter (values.Bit false values.nowhere 0)
