use Rattle.std.proofs.Common.{◌-◌, length}
use Rattle.offmap_tests.proofs.random.shift.Given as goal

abbrev pub decreases-loop-i : goal.decreases-loop-i
decreases-loop-i l = l.size - l.i

abbrev pub decreases-loop-i-2 : goal.decreases-loop-i-2
decreases-loop-i-2 l = length l.moved.items - l.i
