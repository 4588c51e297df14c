use Rattle.std.proofs.Common.{◌≡◌, ◌++◌, drop}
use Rattle.avalue_base.specs.Deaths.{without}
use Rattle.sorted_lists.proofs.lists.without.Given as goal

abbrev pub invariant-loop-x : goal.invariant-loop-x
invariant-loop-x g l = l.list.items ++ without g.T.Keyed.key_of l.key (drop l.x-index l.xs) ≡ without g.T.Keyed.key_of l.key l.xs
