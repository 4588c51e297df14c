use Rattle.std.proofs.Common.{◌≡◌, drop, map}
use Rattle.ival_core.specs.Joined.{with_numbers}
use Rattle.ival_arith.specs.Pieces.{changed, gathered}
use Rattle.ival_arith.proofs.pieces.few_changed.Given as goal

abbrev pub invariant-loop-n : goal.invariant-loop-n
invariant-loop-n l = with_numbers l.all.shape (map (changed l.change) (drop l.n-index l.few)) ≡ gathered (map (changed l.change) l.few)
