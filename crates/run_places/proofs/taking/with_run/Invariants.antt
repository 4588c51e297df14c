use Rattle.run_places.proofs.TakingIn.{RunsOn}
use Rattle.run_places.proofs.taking.with_run.Given as goal

abbrev pub invariant-loop-left : goal.invariant-loop-left
invariant-loop-left g l = RunsOn g.C.Cells.ops (g.M.Merge.merged l.merge) l.runs l.initial.spot l.run l.spot l.left l.initial.out.items l.out.items

abbrev pub decreases-loop-left : goal.decreases-loop-left
decreases-loop-left g l = l.left
