use Rattle.std.proofs.Common.{◌≡◌, ℕ, List, map, replicate}
use Rattle.std.specs.List.{AllByRecursion}
use Rattle.c_memory.specs.Values as values
use Rattle.stepper_memory.specs.Views.{seen, IsBefore}
use Rattle.stepper_memory.proofs.cells.unwritten.Given as goal

abbrev pub invariant-loop : goal.invariant-loop
invariant-loop l = ((deaths : List ℕ) → map (seen deaths) l.made ≡ replicate l.counter values.Uninit) × AllByRecursion (IsBefore l.now) l.made
