use Rattle.std.proofs.Common.{◌-◌, length}
use Rattle.cell_runs.proofs.Taking.{Seeks}
use Rattle.cell_runs.proofs.parts.locate.Given as goal

abbrev pub invariant-loop-i : goal.invariant-loop-i
invariant-loop-i g l = Seeks g.C.Cells.ops l.runs l.n l.i l.left

abbrev pub decreases-loop-i : goal.decreases-loop-i
decreases-loop-i g l = length l.runs - l.i
