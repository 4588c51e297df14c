use Rattle.run_orders.proofs.Including.{FewOn}
use Rattle.run_orders.proofs.inclusion.allow_few.Given as goal

abbrev pub invariant-loop-left : goal.invariant-loop-left
invariant-loop-left g l = FewOn g.C.Cells.ops l.runs l.initial.at l.run l.count l.at l.left

abbrev pub decreases-loop-left : goal.decreases-loop-left
decreases-loop-left g l = l.left
