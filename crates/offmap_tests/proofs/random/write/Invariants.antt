use Rattle.std.proofs.Common.{◌-◌}
use Rattle.offmap_tests.proofs.random.write.Given as goal

abbrev pub decreases-loop-i : goal.decreases-loop-i
decreases-loop-i l = l.size - l.i
