use Rattle.std.proofs.Common.{◌≡◌, pos, drop, map}
use Rattle.c_base.specs.Integers.{residue}
use Rattle.ival_core.specs.Joined.{with_numbers}
use Rattle.ival_arith.specs.Pieces.{gathered}
use Rattle.ival_arith.proofs.values.few_residues.Given as goal

abbrev pub invariant-loop-n : goal.invariant-loop-n
invariant-loop-n l = with_numbers l.all.shape (map (λ n. pos (residue l.m n)) (drop l.n-index l.few)) ≡ gathered (map (λ n. pos (residue l.m n)) l.few)
