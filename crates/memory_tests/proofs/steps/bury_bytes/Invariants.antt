use Rattle.std.proofs.Common.{◌-◌, length}
use Rattle.memory_tests.proofs.steps.bury_bytes.Given as goal

abbrev pub decreases-loop-i : goal.decreases-loop-i
decreases-loop-i l = length l.bytes - l.i
