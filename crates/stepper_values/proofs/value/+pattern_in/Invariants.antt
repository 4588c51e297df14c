use Rattle.std.proofs.Common.{length}
use Rattle.stepper_values.proofs.value.+pattern_in.Given as goal

abbrev pub decreases-pattern_in : goal.decreases-pattern_in
decreases-pattern_in l = length l.cells.now
