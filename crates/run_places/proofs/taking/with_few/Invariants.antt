use Rattle.run_places.proofs.TakingIn.{FewOn}
use Rattle.run_places.proofs.taking.with_few.Given as goal

abbrev pub invariant-loop-left : goal.invariant-loop-left
invariant-loop-left g l = FewOn g.C.Cells.ops (g.M.Merge.merged l.merge) l.runs l.initial.at l.run l.count l.at l.left l.initial.out.items l.out.items

abbrev pub decreases-loop-left : goal.decreases-loop-left
decreases-loop-left g l = l.left
