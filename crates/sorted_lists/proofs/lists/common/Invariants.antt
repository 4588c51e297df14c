use Rattle.std.proofs.Common.{◌+◌, ◌-◌, length}
use Rattle.sorted_lists.proofs.Commons.{Gathered}
use Rattle.sorted_lists.proofs.lists.common.Given as goal

abbrev pub invariant-loop-at : goal.invariant-loop-at
invariant-loop-at g l = Gathered g.X.Keyed.key_of g.Y.Keyed.key_of g.R.Picks.picked l.xs l.list.items l.ys l.at.left l.at.right

abbrev pub decreases-loop-at : goal.decreases-loop-at
decreases-loop-at g l = length l.xs + length l.ys - (l.at.left + l.at.right)
