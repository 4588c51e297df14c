-- The widening of sets of numbers and of byte offsets.
use Rattle.std.specs.Prelude.{ℕ, ◌^◌, ◌-◌, ◌==◌, nat_lt, cond, ◌&&◌, List, [], ◌∷◌, ℤ, pos, neg_ℤ, ◌-ℤ◌, ◌*ℤ◌}
use Rattle.ival_core.specs.declared.value.Ival.{Ival}
use Rattle.ival_core.specs.Widenings.{widened}
use Rattle.avalue_base.specs.Numbers.{join_of}
use Rattle.avalue_base.specs.Values.{Address}
use Rattle.avalue_base.specs.Meets.{meet_of, set_of}

-- the numbers of both, where a bound of the first that the second moves goes on to the next mark
unfoldable pub widen_of : List ℤ → Ival → Ival → Ival
widen_of marks a b = set_of (widened a.shape (join_of a b).shape marks)

-- the same by two lists of marks: a bound goes to the nearer mark
abbrev pub widened_set : List ℤ → List ℤ → Ival → Ival → Ival
widened_set marks own a b = meet_of (widen_of marks a b) (widen_of own a b)

-- 0, and the ends of the numbers of a type of twice as many numbers as half, with a sign and without
abbrev pub half_marks : ℤ → List ℤ
half_marks half = (pos 0 -ℤ half) ∷ pos 0 ∷ (half -ℤ pos 1) ∷ (pos 2 *ℤ half -ℤ pos 1) ∷ []

-- the same for so many bits; of one bit the ends are -1, 0 and 1
abbrev pub bit_marks : ℕ → List ℤ
bit_marks bits = cond (bits == 1) (neg_ℤ (pos 1) ∷ pos 0 ∷ pos 1 ∷ []) (half_marks (pos (2 ^ (bits - 1))))

-- 0, the end of a base of so many bytes, and the ends of the offsets that are kept
abbrev pub offset_marks : ℕ → List ℤ
offset_marks size =
    cond (nat_lt 0 size && nat_lt size (2 ^ 62))
    (neg_ℤ (pos (2 ^ 62)) ∷ pos 0 ∷ pos size ∷ pos (2 ^ 62) ∷ [])
    (neg_ℤ (pos (2 ^ 62)) ∷ pos 0 ∷ pos (2 ^ 62) ∷ [])

unfoldable pub widened_offsets : List ℤ → ℕ → Ival → Ival → Ival
widened_offsets marks size a b = widened_set marks (offset_marks size) a b

-- by the marks and the size of the base
abbrev pub widened_address : (ℕ → ℕ) → List ℤ → Address → Address → Address
widened_address size_of marks a b = record { base = a.base; offsets = widened_offsets marks (size_of a.base) a.offsets b.offsets }
