use Rattle.std.proofs.Common.{length}
use Rattle.run_joins.specs.Joining.{rest}
use Rattle.run_joins.proofs.Opening.{JoinsOn}
use Rattle.run_joins.proofs.each.join_each.Given as goal

abbrev pub invariant-loop-i : goal.invariant-loop-i
invariant-loop-i g l = JoinsOn g.C.Cells.ops (g.M.Merge.merged l.merge) l.a l.i l.b l.j l.initial.out.items l.out.items

abbrev pub decreases-loop-i : goal.decreases-loop-i
decreases-loop-i g l = length (rest l.a l.i)
