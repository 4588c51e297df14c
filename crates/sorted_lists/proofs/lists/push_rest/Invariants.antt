use Rattle.std.proofs.Common.{◌≡◌, ◌++◌, drop}
use Rattle.sorted_lists.proofs.lists.push_rest.Given as goal

abbrev pub invariant-loop-index : goal.invariant-loop-index
invariant-loop-index g l = l.list.items ++ drop l.index l.xs ≡ l.fn.list.items ++ drop l.fn.from l.xs
