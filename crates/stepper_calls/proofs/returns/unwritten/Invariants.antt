use Rattle.std.proofs.Common.{◌≡◌, map, replicate}
use Rattle.c_memory.specs.Values as values
use Rattle.stepper_values.specs.Views.{cell_of}
use Rattle.stepper_calls.proofs.returns.unwritten.Given as goal

abbrev pub invariant-loop : goal.invariant-loop
invariant-loop l = map cell_of l.cells ≡ replicate l.counter values.Uninit
