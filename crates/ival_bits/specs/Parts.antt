-- Parts of the numbers of sets.
use Rattle.std.specs.Prelude.{ℕ, ◌^◌, ◌==◌, cond, ℤ, pos, neg_ℤ, ◌+ℤ◌, ◌*ℤ◌}
use Rattle.c_base.specs.Integers.{residue}
use Rattle.c_base.specs.Operators.{floor}
use Rattle.ival_core.specs.declared.value.Shape.{Shape}
use Rattle.ival_arith.specs.declared.pieces.Change.TheVariants.{Times}
use Rattle.ival_arith.specs.Pieces.{all_changed}
use Rattle.ival_arith.specs.Floors.{floored}
use Rattle.ival_arith.specs.Values.{residues}
use Rattle.ival_arith.specs.Sums.{sums}

-- `bits` bits of n from bit `low` on
abbrev pub part : ℕ → ℕ → ℤ → ℤ
part low bits n = pos (residue (2 ^ bits) (floor n (2 ^ low)))

-- the number with the lowest bits of l, and h above them
abbrev pub glued : ℕ → ℤ → ℤ → ℤ
glued low_bits l h = h *ℤ pos (2 ^ low_bits) +ℤ pos (residue (2 ^ low_bits) l)

unfoldable pub extracted : ℕ → ℕ → Shape → Shape
extracted low bits s = residues (2 ^ bits) (floored (2 ^ low) s)

unfoldable pub concatenated : ℕ → Shape → Shape → Shape
concatenated low_bits s t =
    cond (low_bits == 64) (residues (2 ^ low_bits) s)
    (sums (neg_ℤ (pos (2 ^ 120))) (pos (2 ^ 120)) (all_changed (Times (2 ^ low_bits)) t) (residues (2 ^ low_bits) s))
