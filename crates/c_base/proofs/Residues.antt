-- The residue of a number modulo m.
use Rattle.std.proofs.Common.{◌≡◌, ℕ, suc, ◌+◌, ◌-◌, ◌*◌, ◌/◌, ◌%◌, ◌<◌, ℤ, pos, negsuc, ◌+ℤ◌, refl, ap, ◌∙◌, arith}
use Rattle.std.specs.Prelude.{◌*ℤ◌}
use Rattle.std.proofs.lemmas.Nat.{div-add-mod', mod_below, mod-mul-add}
use Rattle.std.proofs.lemmas.Int.{ints, int_rem_euclid_is}
use Rattle.std.specs.Int.{int_rem_euclid}
use lib.IntN.{*ℤ_comm}
use Rattle.std.proofs.Math.Nat.{mul_comm}
use Rattle.c_base.proofs.Products.{add-mul, mul_last}
use Rattle.c_base.specs.Integers.{residue}

-- z is r and a multiple of m
pub record Differs (m : ℕ) (z : ℤ) (r : ℕ) : Type 0 where
  pub times : ℤ
  pub is : z ≡ pos r +ℤ times *ℤ pos m

pub residue_below : (m : ℕ) (z : ℤ) → 0 < m → residue m z < m
residue_below m (pos n) h = mod_below n m h
residue_below m (negsuc n) h = omega (arith, mod_below n m h)

pub residue_differs : (m : ℕ) (z : ℤ) → 0 < m → Differs m z (residue m z)
residue_differs m (pos n) h = let d = div-add-mod' n m in record { times = pos (n / m); is = omega (arith, ints) }
residue_differs m (negsuc n) h =
    let d = div-add-mod' n m in let b : n % m < m = mod_below n m h in
    record { times = negsuc (n / m); is = omega (arith, ints) }

pub residue-rem_euclid : (m : ℕ) (z : ℤ) → pos (residue m z) ≡ int_rem_euclid z (pos m)
residue-rem_euclid m (pos n) = refl
residue-rem_euclid m (negsuc n) = let e : m - suc (n % m) ≡ m - 1 - n % m = omega arith in ap pos e

unpos : (a b : ℕ) → pos a ≡ pos b → a ≡ b
unpos a b e = cc

by_times : (m : ℕ) (z t : ℤ) (r : ℕ) → r < m → z ≡ pos r +ℤ t *ℤ pos m → int_rem_euclid z (pos m) ≡ pos r
by_times m z (pos t) r h e =
    let p : 0 < m = omega arith in
    let k : z +ℤ pos (0 * m) ≡ pos (t * m + r) = omega (arith, ints) in
    int_rem_euclid_is z (pos m) m 0 (t * m + r) p refl k ∙ ap pos (mod-mul-add t m r h)
by_times m z (negsuc t) r h e =
    let p : 0 < m = omega arith in
    let k : z +ℤ pos (suc t * m) ≡ pos (0 * m + r) = omega (arith, ints) in
    int_rem_euclid_is z (pos m) m (suc t) (0 * m + r) p refl k ∙ ap pos (mod-mul-add 0 m r h)

pub residue_is : (m : ℕ) (z : ℤ) (r : ℕ) → r < m → Differs m z r → residue m z ≡ r
residue_is m z r h d = unpos (residue m z) r (residue-rem_euclid m z ∙ by_times m z d.times r h d.is)

-- a and b leave the same residue
pub record Same (m : ℕ) (a b : ℤ) : Type 0 where
  pub times : ℤ
  pub is : a ≡ b +ℤ times *ℤ pos m

pub residue_same : (m : ℕ) (a b : ℤ) → 0 < m → Same m a b → residue m a ≡ residue m b
residue_same m a b h s =
    let d = residue_differs m b h in
    residue_is m a (residue m b) (residue_below m b h) (record {
      times = d.times +ℤ s.times;
      is = by_sum a b (residue m b) d.times s.times (pos m) s.is d.is;
    })
  where
    by_sum : (a b : ℤ) (r : ℕ) (t u k : ℤ) → a ≡ b +ℤ u *ℤ k → b ≡ pos r +ℤ t *ℤ k → a ≡ pos r +ℤ (t +ℤ u) *ℤ k
    by_sum a b r t u k e f = rw (add-mul t u k) (omega (arith, ints, e, f))

pub Same-residue : (m : ℕ) (a : ℤ) → 0 < m → Same m a (pos (residue m a))
Same-residue m a h = let d = residue_differs m a h in record { times = d.times; is = d.is }

pub Same-mul : (m : ℕ) (a b c : ℤ) → Same m a b → Same m (a *ℤ c) (b *ℤ c)
Same-mul m a b c s = record {
  times = s.times *ℤ c;
  is = ap (λ x. x *ℤ c) s.is ∙ add-mul b (s.times *ℤ pos m) c ∙ ap (λ x. b *ℤ c +ℤ x) (mul_last s.times (pos m) c);
}

-- the residue of a product follows from those of its factors
pub residue-mul : (m : ℕ) (a b : ℤ) → 0 < m → residue m (a *ℤ b) ≡ (residue m a * residue m b) % m
residue-mul m a b h =
    residue_same m (a *ℤ b) (pos (residue m a) *ℤ b) h (Same-mul m a (pos (residue m a)) b (Same-residue m a h))
    ∙ ap (residue m) (*ℤ_comm (pos (residue m a)) b)
    ∙ residue_same m (b *ℤ pos (residue m a)) (pos (residue m b) *ℤ pos (residue m a)) h (Same-mul m b (pos (residue m b)) (pos (residue m a)) (Same-residue m b h))
    ∙ ap (λ x. x % m) (mul_comm (residue m b) (residue m a))
