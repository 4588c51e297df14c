use Rattle.std.proofs.Common.{length}
use Rattle.stepper_values.proofs.value.+is_any_uninit.Given as goal

abbrev pub decreases-is_any_uninit : goal.decreases-is_any_uninit
decreases-is_any_uninit l = length l.cells.now
