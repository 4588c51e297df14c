use Rattle.std.proofs.Common.{◌-◌, take, length}
use Rattle.cell_runs.specs.Runs.{elements, Extends}
use Rattle.run_orders.specs.Deaths.{left_all}
use Rattle.run_orders.proofs.deaths.leave_all.Given as goal

abbrev pub invariant-loop-i : goal.invariant-loop-i
invariant-loop-i g l = Extends l.initial.out.items l.out.items (left_all g.C.Cells.ops (g.D.Death.left l.death) (elements (take l.i l.runs)))

abbrev pub decreases-loop-i : goal.decreases-loop-i
decreases-loop-i g l = length l.runs - l.i
