use Rattle.std.proofs.Common.{◌-◌}
use Rattle.ival_core.proofs.Halving.{Split}
use Rattle.ival_core.proofs.widening.marks_below.Given as goal

abbrev pub invariant-loop-start : goal.invariant-loop-start
invariant-loop-start l = Split l.marks l.n l.start l.end

abbrev pub decreases-loop-start : goal.decreases-loop-start
decreases-loop-start l = l.end - l.start
