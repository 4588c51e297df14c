use Rattle.std.proofs.Common.{◌+◌, ◌-◌, length}
use Rattle.sorted_lists.proofs.Merging.{Union}
use Rattle.sorted_lists.proofs.lists.union.Given as goal

abbrev pub invariant-loop-at : goal.invariant-loop-at
invariant-loop-at g l = Union g.T.Keyed.key_of (g.R.Unites.united l.rule) l.xs l.ys l.list.items l.at.left l.at.right

abbrev pub decreases-loop-at : goal.decreases-loop-at
decreases-loop-at g l = length l.xs + length l.ys - (l.at.left + l.at.right)
