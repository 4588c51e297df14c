use Rattle.std.proofs.Common.{◌≡◌, drop}
use Rattle.ival_arith.specs.Pieces.{none}
use Rattle.ival_arith.specs.Sums.{sums_onto}
use Rattle.ival_arith.proofs.sums.sums_with.Given as goal

abbrev pub invariant-loop-other : goal.invariant-loop-other
invariant-loop-other l = sums_onto l.lo l.hi l.all.shape l.set.shape (drop l.other-index l.others) ≡ sums_onto l.lo l.hi none l.set.shape l.others
