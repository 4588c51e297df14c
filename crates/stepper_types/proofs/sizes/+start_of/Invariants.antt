use Rattle.std.proofs.Common.{length}
use Rattle.stepper_types.proofs.sizes.+start_of.Given as goal

abbrev pub decreases-start_of : goal.decreases-start_of
decreases-start_of l = length l.members.now
