use Rattle.std.proofs.Common.{◌≡◌, drop, map}
use Rattle.c_base.specs.Operators.{floor}
use Rattle.ival_core.specs.Joined.{with_numbers}
use Rattle.ival_arith.specs.Pieces.{gathered}
use Rattle.ival_arith.proofs.floors.few_floored.Given as goal

abbrev pub invariant-loop-n : goal.invariant-loop-n
invariant-loop-n l = with_numbers l.all.shape (map (λ n. floor n l.d) (drop l.n-index l.few)) ≡ gathered (map (λ n. floor n l.d) l.few)
