-- How numbers are wrapped.
use Rattle.std.proofs.Common.{◌≡◌, ℕ, ◌≤◌, ◌^◌, Bool, ℤ, pos, ◌+ℤ◌, ◌-ℤ◌, FitsSigned, to_z, of_z, subst, ap, ◌∙◌, arith}
use Rattle.std.specs.Prelude.{neg_ℤ, int_le, unsigned_abs}
use Rattle.std.specs.Int.{w128}
use Rattle.std.proofs.lemmas.Int.{ints, to_z-of_z, to_z_pos}
use lib.Signed.{◌≤ℤ◌}
use Rattle.c_base.specs.Integers.{greatest_of}
use Rattle.c_base.specs.Operators.{reduced}
use Rattle.ival_core.specs.declared.value.Progression.{Progression}
use Rattle.ival_core.specs.Sets.{apart, IsNumber}
use Rattle.ival_core.proofs.Runs.{number_fits}
use Rattle.ival_bits.proofs.WrapSets.{IsBits, Moved, moved}

pub distance : (low high : ℤ) (d : ℕ) → d ≡ unsigned_abs (high -ℤ low) → d ≡ apart low high
unfolding apart
distance low high d e = e

pub apart_small : (low high : ℤ) → IsNumber low → IsNumber high → apart low high ≤ 2 ^ 121
unfolding apart
apart_small low high h k = let a = h.least in let b = h.greatest in let c = k.least in let d = k.greatest in omega (arith, ints)

pub sum_end : (low : ℤ) (d k : ℕ) → IsNumber low → d ≡ k → k ≤ 2 ^ 121 → to_z w128 (of_z w128 (to_z w128 (of_z w128 low) +ℤ to_z w128 d)) ≡ low +ℤ pos k
sum_end low d k h e l =
    let a = h.least in let b = h.greatest in
    rw (e) (rw (to_z-of_z w128 low (number_fits low h), to_z_pos w128 k (omega arith)) (to_z-of_z w128 (low +ℤ pos k) (fits low k a b l)))
  where
    fits : (low : ℤ) (k : ℕ) → neg_ℤ (pos (2 ^ 120)) ≤ℤ low → low ≤ℤ pos (2 ^ 120) → k ≤ 2 ^ 121 → FitsSigned w128 (low +ℤ pos k)
    fits low k a b l = omega (arith, ints)

pub test_ends : (a b x y : ℤ) → a ≡ x → b ≡ y → int_le a b ≡ int_le x y
test_ends a b x y e f = ap (λ z. int_le z b) e ∙ ap (int_le x) f

pub moved_by : (signed : Bool) (bits : ℕ) (p : Progression) (high top : ℤ) → IsBits bits → high ≡ reduced signed bits p.low +ℤ pos (apart p.low p.high) → top ≡ greatest_of signed bits → high ≤ℤ top → Moved signed bits p
moved_by signed bits p high top w e f h = moved signed bits p w (subst (λ z. z ≤ℤ greatest_of signed bits) e (subst (λ z. high ≤ℤ z) f h))
