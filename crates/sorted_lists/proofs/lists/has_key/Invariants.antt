use Rattle.std.proofs.Common.{◌≡◌, map, drop}
use Rattle.avalue_base.specs.Lists.{has_base}
use Rattle.sorted_lists.proofs.lists.has_key.Given as goal

abbrev pub invariant-loop-x : goal.invariant-loop-x
invariant-loop-x g l = has_base (map g.T.Keyed.key_of (drop l.x-index l.xs)) l.key ≡ has_base (map g.T.Keyed.key_of l.xs) l.key
