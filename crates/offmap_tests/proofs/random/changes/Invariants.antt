use Rattle.std.proofs.Common.{◌-◌}
use Rattle.offmap_tests.proofs.random.changes.Given as goal

abbrev pub decreases-loop-i : goal.decreases-loop-i
decreases-loop-i l = l.count - l.i
