use Rattle.std.proofs.Common.{◌≡◌, map, take}
use Rattle.stepper_values.specs.Views.{cell_of}
use Rattle.stepper_memory.specs.Views.{seen}
use Rattle.stepper_memory.proofs.cells.seen_all.Given as goal

abbrev pub invariant-loop-stored : goal.invariant-loop-stored
invariant-loop-stored l = map cell_of l.made ≡ map (seen l.deaths) (take l.stored-index l.cells)
