use Rattle.std.proofs.Common.{◌+◌, ◌-◌, length}
use Rattle.sorted_lists.proofs.Merging.{Walk}
use Rattle.sorted_lists.proofs.lists.is_all_in.Given as goal

abbrev pub invariant-loop-at : goal.invariant-loop-at
invariant-loop-at g l = Walk g.X.Keyed.key_of g.Y.Keyed.key_of g.R.Compares.lies_in l.xs l.ys l.at.left l.at.right

abbrev pub decreases-loop-at : goal.decreases-loop-at
decreases-loop-at g l = length l.xs + length l.ys - (l.at.left + l.at.right)
