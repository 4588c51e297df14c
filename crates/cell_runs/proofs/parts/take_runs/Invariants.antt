use Rattle.std.proofs.Common.{◌-◌, length}
use Rattle.cell_runs.proofs.Taking.{TakesOn}
use Rattle.cell_runs.proofs.parts.take_runs.Given as goal

abbrev pub invariant-loop-i : goal.invariant-loop-i
invariant-loop-i g l = TakesOn g.C.Cells.ops l.runs l.n l.i l.left l.initial.out.items l.out.items

abbrev pub decreases-loop-i : goal.decreases-loop-i
decreases-loop-i g l = length l.runs - l.i
