-- Sets that are made of other sets: the same numbers changed, cut, or taken modulo m.
use Rattle.std.specs.Prelude.{◌<◌, ℕ, zero, suc, ◌+◌, ◌-◌, ◌*◌, ◌/◌, ◌%◌, nat_lt, Bool, false, cond, ◌&&◌, ◌||◌, ℤ, pos, neg_ℤ, ◌+ℤ◌, ◌*ℤ◌, int_le, int_lt, List, [], ◌∷◌, map}
use Rattle.std.specs.Int.{int_min, int_max, int_rem_euclid}
use Rattle.c_base.specs.Integers.{residue}
use Rattle.ival_core.specs.declared.value.Progression.{Progression}
use Rattle.ival_core.specs.declared.value.Shape.{Shape}
use Rattle.ival_core.specs.declared.value.Shape.TheVariants.{Few, Many}
use Rattle.ival_core.specs.Sets.{apart}
use Rattle.ival_core.specs.Ranges.{run_shape, ranged}
use Rattle.ival_core.specs.Joined.{gcd, with_numbers}
use Rattle.ival_arith.specs.declared.pieces.Change.{Change}
use Rattle.ival_arith.specs.declared.pieces.Change.TheVariants.{Plus, Negative, Times}

abbrev pub none : Shape
none = Few (record { items = [] })

-- the least set that holds the numbers
unfoldable pub gathered : List ℤ → Shape
gathered xs = with_numbers none xs

-- from first on in steps of stride, up to high
abbrev pub run : ℤ → ℤ → ℕ → Shape
run first high stride = run_shape first stride (apart first high / stride)

-- what becomes of a number
abbrev pub changed : Change → ℤ → ℤ
changed (Plus k) n = n +ℤ k
changed Negative n = neg_ℤ n
changed (Times k) n = n *ℤ pos k

-- the numbers of a progression, each with k more
abbrev pub run_shifted : ℤ → Progression → Shape
run_shifted k p = run (p.low +ℤ k) (p.high +ℤ k) p.stride

abbrev pub run_negated : Progression → Shape
run_negated p = run (neg_ℤ p.high) (neg_ℤ p.low) p.stride

-- the numbers of a progression, each k times
abbrev pub run_scaled : ℕ → Progression → Shape
run_scaled k p = run (p.low *ℤ pos k) (p.high *ℤ pos k) (p.stride * k)

-- n is one of xs
abbrev pub is_among : List ℤ → ℤ → Bool
is_among [] n = false
is_among (x ∷ xs) n = (int_le n x && int_le x n) || is_among xs n

-- what first, first + stride, first + 2 · stride and so on leave modulo m
unfoldable pub residues_from : ℕ → ℕ → ℕ → ℕ → List ℤ
residues_from m first stride zero = []
residues_from m first stride (suc count) = pos (first % m) ∷ residues_from m (first + stride) stride count

-- what first, first + stride and so on leave modulo m, for `more` steps, 8 or more. They repeat themselves after at most 8 numbers;
-- or they cross no multiple of m; or else all numbers that the common divisor of stride and m allows are in the set.
unfoldable pub cycle : ℕ → ℕ → ℕ → ℕ → Shape
cycle m first stride more =
    cond (is_among (residues_from m first stride 8) (pos ((first + 8 * stride) % m)))
    (gathered (residues_from m first stride 8))
    (cond (nat_lt (first + more * stride) m)
    (run (pos first) (pos (first + more * stride)) stride)
    (ranged (pos 0) (pos (m - 1)) (pos (first % gcd stride m)) (pos (gcd stride m))))

abbrev pub run_residues : ℕ → Progression → Shape
run_residues m p = cycle m (residue m p.low) (p.stride % m) (apart p.low p.high / p.stride)

abbrev pub run_changed : Change → Progression → Shape
run_changed (Plus k) p = run_shifted k p
run_changed Negative p = run_negated p
run_changed (Times k) p = run_scaled k p

-- a factor is not 0
abbrev pub CanChange : Change → Type 0
CanChange (Plus k) = Unit {0}
CanChange Negative = Unit {0}
CanChange (Times k) = 0 < k

unfoldable pub all_changed : Change → Shape → Shape
all_changed change (Few v) = gathered (map (changed change) v.items)
all_changed change (Many p) = run_changed change p

-- those of a list that lie from lo to hi
abbrev pub within : ℤ → ℤ → List ℤ → List ℤ
within lo hi [] = []
within lo hi (x ∷ xs) = cond (int_le lo x && int_le x hi) (x ∷ within lo hi xs) (within lo hi xs)

-- the numbers of a progression from lo to hi
unfoldable pub run_clipped : ℤ → ℤ → Progression → Shape
run_clipped lo hi p =
    cond (int_lt (int_min hi p.high) (int_max lo p.low)) none
    (ranged (int_max lo p.low) (int_min hi p.high) (int_rem_euclid p.low (pos p.stride)) (pos p.stride))

unfoldable pub clipped : ℤ → ℤ → Shape → Shape
clipped lo hi (Few v) = gathered (within lo hi v.items)
clipped lo hi (Many p) = run_clipped lo hi p
