-- The distance of two integers, and numbers that leave one remainder.
use Rattle.std.proofs.Common.{◌≡◌, ◌⊎◌, ℕ, ◌+◌, ◌-◌, ℤ, pos, ◌+ℤ◌, ◌≤ℤ◌, sym, subst, inl, inr, arith}
use Rattle.std.proofs.Math.Nat.{dvd-add, dvd-sub, dvd-zero}
use Rattle.std.proofs.lemmas.Int.{ints, by_lt_z}
use Rattle.std.specs.Int.{◌∣◌}
use lib.Signed.{◌≤ℤ◌}
use Rattle.ival_core.specs.Sets.{apart}

pub apart_is : (a b : ℤ) → a ≤ℤ b → b ≡ a +ℤ pos (apart a b)
unfolding apart
apart_is a b h = omega (arith, ints)

pub apart_onto : (a : ℤ) (k : ℕ) → apart a (a +ℤ pos k) ≡ k
unfolding apart
apart_onto a k = omega (arith, ints)

pub apart-swap : (a b : ℤ) → apart a b ≡ apart b a
unfolding apart
apart-swap a b = omega (arith, ints)

pub apart_self : (a : ℤ) → apart a a ≡ 0
unfolding apart
apart_self a = omega (arith, ints)

-- by way of b: one of the two differences is 0 where the way turns back
record Ways (a b c : ℤ) : Type 0 where
  way : (apart a c ≡ apart a b + apart b c) ⊎ (apart a c ≡ (apart a b - apart b c) + (apart b c - apart a b))

ways : (a b c : ℤ) → Ways a b c
unfolding apart
ways a b c =
    by_lt_z a b
    (λ h. by_lt_z b c (λ k. record { way = inl (omega (arith, ints)) }) (λ k. record { way = inr (omega (arith, ints)) }))
    (λ h. by_lt_z b c (λ k. record { way = inr (omega (arith, ints)) }) (λ k. record { way = inl (omega (arith, ints)) }))

-- d divides the distance of a and b: they leave one remainder
pub meets_self : (d : ℕ) (a : ℤ) → d ∣ apart a a
meets_self d a = subst (λ k. d ∣ k) (sym (apart_self a)) (dvd-zero d)

pub meets_back : (d : ℕ) (a b : ℤ) → d ∣ apart a b → d ∣ apart b a
meets_back d a b h = subst (λ k. d ∣ k) (apart-swap a b) h

pub meets_on : (d : ℕ) (a b c : ℤ) → d ∣ apart a b → d ∣ apart b c → d ∣ apart a c
meets_on d a b c h k =
    elim (ways a b c).way [
      | inl e ↦ subst (λ x. d ∣ x) (sym e) (dvd-add d h k)
      | inr e ↦ subst (λ x. d ∣ x) (sym e) (dvd-add d (dvd-sub d h k) (dvd-sub d k h))
    ]
