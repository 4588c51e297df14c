use Rattle.std.proofs.Common.{suc}
use Rattle.run_slots.proofs.Representing.{FindsOn}
use Rattle.run_slots.proofs.Stretching.{TellsOn}
use Rattle.run_slots.proofs.offsets.distinct_offsets.Given as goal

abbrev pub invariant-loop-left : goal.invariant-loop-left
invariant-loop-left g l =
    FindsOn g.C.Cells.ops l.runs l.bits l.steps.first l.steps.step (suc l.steps.more) l.left l.at l.spot l.offsets.items
    × TellsOn l.runs l.bits l.steps.first l.steps.step (suc l.steps.more) l.left l.at l.offsets.items

abbrev pub decreases-loop-left : goal.decreases-loop-left
decreases-loop-left g l = l.left
