use Rattle.std.proofs.Common.{◌≡◌, drop}
use Rattle.ival_core.specs.Joined.{with_numbers}
use Rattle.ival_arith.specs.Pieces.{within, gathered}
use Rattle.ival_arith.proofs.pieces.few_clipped.Given as goal

abbrev pub invariant-loop-n : goal.invariant-loop-n
invariant-loop-n l = with_numbers l.all.shape (within l.lo l.hi (drop l.n-index l.few)) ≡ gathered (within l.lo l.hi l.few)
