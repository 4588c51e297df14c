use Rattle.std.proofs.Common.{◌-◌, length}
use Rattle.run_orders.proofs.Including.{AllOn}
use Rattle.run_orders.proofs.inclusion.included.Given as goal

abbrev pub invariant-loop-i : goal.invariant-loop-i
invariant-loop-i g l = AllOn g.C.Cells.ops l.first l.second l.spot l.i

abbrev pub decreases-loop-i : goal.decreases-loop-i
decreases-loop-i g l = length l.second - l.i
