use Rattle.std.proofs.Common.{length}
use Rattle.stepper_values.proofs.value.+united.Given as goal

abbrev pub decreases-united : goal.decreases-united
decreases-united l = length l.cells.now
