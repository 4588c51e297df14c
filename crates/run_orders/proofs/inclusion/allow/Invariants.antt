use Rattle.run_orders.proofs.Including.{RunOn}
use Rattle.run_orders.proofs.inclusion.allow.Given as goal

abbrev pub invariant-loop-left : goal.invariant-loop-left
invariant-loop-left g l = RunOn g.C.Cells.ops l.runs l.initial.at l.run l.at l.left

abbrev pub decreases-loop-left : goal.decreases-loop-left
decreases-loop-left g l = l.left
