use Rattle.std.proofs.Common.{◌-◌, ◌≤◌, length}
use Rattle.first_analysis.proofs.marks.marks_below.Given as goal

abbrev pub invariant-loop-start : goal.invariant-loop-start
invariant-loop-start l = record { ordered : l.start ≤ l.end; within : l.end ≤ length l.marks }

abbrev pub decreases-loop-start : goal.decreases-loop-start
decreases-loop-start l = l.end - l.start
