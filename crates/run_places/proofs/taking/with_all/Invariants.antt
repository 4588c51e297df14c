use Rattle.std.proofs.Common.{◌-◌, length}
use Rattle.run_places.proofs.TakingIn.{AllOn}
use Rattle.run_places.proofs.taking.with_all.Given as goal

abbrev pub invariant-loop-i : goal.invariant-loop-i
invariant-loop-i g l = AllOn g.C.Cells.ops (g.M.Merge.merged l.merge) l.first l.second l.spot l.i l.initial.out.items l.out.items

abbrev pub decreases-loop-i : goal.decreases-loop-i
decreases-loop-i g l = length l.second - l.i
