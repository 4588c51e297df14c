use Rattle.std.proofs.Common.{◌-◌, length}
use Rattle.cell_runs.proofs.Taking.{CopiesOn}
use Rattle.cell_runs.proofs.parts.copy_runs.Given as goal

abbrev pub invariant-loop-i : goal.invariant-loop-i
invariant-loop-i g l = CopiesOn l.runs l.i l.initial.out.items l.out.items

abbrev pub decreases-loop-i : goal.decreases-loop-i
decreases-loop-i g l = length l.runs - l.i
