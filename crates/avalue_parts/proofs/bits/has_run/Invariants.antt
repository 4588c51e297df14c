use Rattle.std.proofs.Common.{◌≡◌, ◌+◌, drop}
use Rattle.std.specs.List.{list_any}
use Rattle.avalue_base.specs.Numbers.{has_all_from}
use Rattle.avalue_parts.proofs.bits.has_run.Given as goal

abbrev pub invariant-loop-first : goal.invariant-loop-first
invariant-loop-first l = list_any (has_all_from l.numbers.shape (l.more + 1)) (drop l.first-index l.starts) ≡ list_any (has_all_from l.numbers.shape (l.more + 1)) l.starts
