-- The least common multiple of two strides, by their greatest common divisor.
use Rattle.std.proofs.Common.{◌≡◌, ℕ, zero, suc, ◌+◌, ◌-◌, ◌*◌, ◌%◌, ◌/◌, ◌<◌, ◌≤◌, sym, subst, ap, ◌∙◌, inl, inr, arith}
use Rattle.std.proofs.Math.Nat.{dvd-sub, dvd-mul_left, dvd-mul_right, dvd_trans, dvd_refl, div-mul_cancel, mul-dvd-mul, dvd_of_mul-dvd-mul_right}
use Rattle.std.proofs.lemmas.Bool.{cases_lt}
use Rattle.std.proofs.lemmas.Nat.{div-add-mod', mod_below}
use Rattle.std.proofs.lemmas.Nat.Gcd.{IsGcd-from_zero, IsGcd-from_mod, same_from_IsGcd}
use Rattle.std.specs.Int.{◌∣◌, IsGcd}

-- what divides the same multiple of two numbers divides that multiple of their greatest common divisor
record Scaled (a b : ℕ) : Type 0 where
  divisor : ℕ
  gcd : IsGcd a b divisor
  scales : (d e : ℕ) → d ∣ a * e → d ∣ b * e → d ∣ divisor * e

scaled : (fuel a b : ℕ) → b ≤ fuel → Scaled a b
scaled zero a b h = record { divisor = a; gcd = IsGcd-from_zero a b (omega arith); scales = λ d e p q. p }
scaled (suc fuel) a b h =
    elim (cases_lt 0 b) [
      | inl m ↦
          let below : a % b < b = mod_below a b m in
          next a b (scaled fuel b (a % b) (omega arith))
      | inr z ↦ record { divisor = a; gcd = IsGcd-from_zero a b (omega arith); scales = λ d e p q. p }
    ]
  where
    rest_divides : (a b d e : ℕ) → d ∣ a * e → d ∣ b * e → d ∣ (a % b) * e
    rest_divides a b d e p q =
        let m = div-add-mod' a b in
        let s : a * e - a / b * (b * e) ≡ (a % b) * e = split a b e m in
        subst (λ y. d ∣ y) s (dvd-sub d p (dvd_trans d q (dvd-mul_left (b * e) (a / b))))
      where
        split : (a b e : ℕ) → a / b * b + a % b ≡ a → a * e - a / b * (b * e) ≡ (a % b) * e
        split a b e m = let k : (a / b * b + a % b) * e ≡ a * e = ap (λ x. x * e) m in omega arith

    next : (a b : ℕ) → Scaled b (a % b) → Scaled a b
    next a b s = record {
      divisor = s.divisor;
      gcd = IsGcd-from_mod a b s.divisor s.gcd;
      scales = λ d e p q. s.scales d e q (rest_divides a b d e p q);
    }

pub gcd_scales : (a b g d e : ℕ) → IsGcd a b g → d ∣ a * e → d ∣ b * e → d ∣ g * e
gcd_scales a b g d e h p q =
    let s : Scaled a b = scaled b a b (omega arith) in
    subst (λ x. d ∣ x * e) (same_from_IsGcd a b s.divisor g s.gcd h) (s.scales d e p q)

-- one / g · other is a multiple of both, and divides each common multiple
pub common_multiple : (one other g d : ℕ) → IsGcd one other g → (one / g * other ∣ d) → (one ∣ d) × (other ∣ d)
common_multiple one other g d h k =
    let p : one / g * g ≡ one = div-mul_cancel g h.0 in
    let q : other / g * g ≡ other = div-mul_cancel g h.1 in
    let s : other / g * one ≡ one / g * other = turn (one / g) (other / g) g one other p q in
    (dvd_trans one (subst (λ y. one ∣ y) s (dvd-mul_left one (other / g))) k, dvd_trans other (dvd-mul_left other (one / g)) k)
  where
    turn : (a b g one other : ℕ) → a * g ≡ one → b * g ≡ other → b * one ≡ a * other
    turn a b g one other p q = let x : b * one ≡ b * (a * g) = ap (λ y. b * y) (sym p) in let y : a * other ≡ a * (b * g) = ap (λ z. a * z) (sym q) in omega arith

pub multiple_divides : (one other g d : ℕ) → 0 < g → IsGcd one other g → one ∣ d → other ∣ d → one / g * other ∣ d
multiple_divides one other g d m h p q =
    let e : d / other * other ≡ d = div-mul_cancel other q in
    let a : one ∣ one * (d / other) = dvd-mul_right one (d / other) in
    let b : one ∣ other * (d / other) = subst (λ y. one ∣ y) (sym e ∙ turn (d / other) other) p in
    let c : one ∣ g * (d / other) = gcd_scales one other g one (d / other) h a b in
    let o : one / g * g ≡ one = div-mul_cancel g h.0 in
    let k : one / g * g ∣ d / other * g = subst (λ x. x ∣ d / other * g) (sym o) (subst (λ y. one ∣ y) (turn g (d / other)) c) in
    let r : one / g ∣ d / other = dvd_of_mul-dvd-mul_right (one / g) m k in
    subst (λ y. one / g * other ∣ y) e (mul-dvd-mul (one / g) other r (dvd_refl other))
  where
    turn : (a b : ℕ) → a * b ≡ b * a
    turn a b = omega arith
