use Rattle.std.proofs.Common.{length}
use Rattle.stepper_values.proofs.value.+is_any_dead.Given as goal

abbrev pub decreases-is_any_dead : goal.decreases-is_any_dead
decreases-is_any_dead l = length l.cells.now
