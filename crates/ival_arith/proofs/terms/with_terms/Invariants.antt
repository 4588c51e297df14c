use Rattle.std.proofs.Common.{◌≡◌, drop}
use Rattle.ival_core.specs.Joined.{with_numbers}
use Rattle.ival_arith.specs.Terms.{terms}
use Rattle.ival_arith.proofs.terms.with_terms.Given as goal

abbrev pub invariant-loop-y : goal.invariant-loop-y
invariant-loop-y l = with_numbers l.all.shape (terms l.op l.x (drop l.y-index l.others)) ≡ with_numbers l.set.shape (terms l.op l.x l.others)
