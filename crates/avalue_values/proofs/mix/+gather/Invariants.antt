use Rattle.std.proofs.Common.{length}
use Rattle.avalue_values.proofs.mix.+gather.Given as goal

abbrev pub decreases-gather : goal.decreases-gather
decreases-gather l = length l.bases.now
