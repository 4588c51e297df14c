use Rattle.std.proofs.Common.{◌-◌, length}
use Rattle.map_rows.proofs.Gathering.{Gathers}
use Rattle.map_rows.proofs.entries_of.Given as goal

abbrev pub invariant-loop-i : goal.invariant-loop-i
invariant-loop-i l = Gathers l.base.0 l.runs l.low l.i l.entries

abbrev pub decreases-loop-i : goal.decreases-loop-i
decreases-loop-i l = length l.runs - l.i
