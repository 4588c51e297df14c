-- Laws of products of integers.
use Rattle.std.proofs.Common.{◌≡◌, ℕ, zero, suc, ℤ, pos, negsuc, ◌+ℤ◌, refl, sym, ap, ◌∙◌, arith}
use Rattle.std.specs.Prelude.{◌*ℤ◌, neg_ℤ}
use Rattle.std.proofs.lemmas.Int.{ints}
use lib.IntN.{*ℤ_comm, *ℤ-zero, *ℤ-negsuc, suc_ℤ-*ℤ}

mul-suc : (a : ℤ) (n : ℕ) → a *ℤ pos (suc n) ≡ a *ℤ pos n +ℤ a
mul-suc a n = *ℤ_comm a (pos (suc n)) ∙ suc_ℤ-*ℤ (pos n) a ∙ ap (λ x. x +ℤ a) (*ℤ_comm (pos n) a)

add-mul_pos : (a b : ℤ) (n : ℕ) → (a +ℤ b) *ℤ pos n ≡ a *ℤ pos n +ℤ b *ℤ pos n
add-mul_pos a b zero = *ℤ-zero (a +ℤ b) ∙ rw (*ℤ-zero a, *ℤ-zero b) refl
add-mul_pos a b (suc n) =
    let e = add-mul_pos a b n in
    rw (mul-suc (a +ℤ b) n, mul-suc a n, mul-suc b n, e) (omega (arith, ints))

pub add-mul : (a b c : ℤ) → (a +ℤ b) *ℤ c ≡ a *ℤ c +ℤ b *ℤ c
add-mul a b (pos n) = add-mul_pos a b n
add-mul a b (negsuc n) =
    rw (*ℤ-negsuc (a +ℤ b) n, *ℤ-negsuc a n, *ℤ-negsuc b n, add-mul_pos a b (suc n)) (omega (arith, ints))

pub mul-add : (a b c : ℤ) → a *ℤ (b +ℤ c) ≡ a *ℤ b +ℤ a *ℤ c
mul-add a b c = *ℤ_comm a (b +ℤ c) ∙ add-mul b c a ∙ rw (*ℤ_comm b a, *ℤ_comm c a) refl

pub mul-neg : (a b : ℤ) → a *ℤ neg_ℤ b ≡ neg_ℤ (a *ℤ b)
mul-neg a b =
    let e : a *ℤ (b +ℤ neg_ℤ b) ≡ a *ℤ b +ℤ a *ℤ neg_ℤ b = mul-add a b (neg_ℤ b) in
    let z : b +ℤ neg_ℤ b ≡ pos 0 = omega (arith, ints) in
    let k : a *ℤ (b +ℤ neg_ℤ b) ≡ pos 0 = ap (λ x. a *ℤ x) z ∙ *ℤ-zero a in
    by_sum (a *ℤ (b +ℤ neg_ℤ b)) (a *ℤ b) (a *ℤ neg_ℤ b) e k
  where
    by_sum : (s x y : ℤ) → s ≡ x +ℤ y → s ≡ pos 0 → y ≡ neg_ℤ x
    by_sum s x y e k = omega (arith, ints)

mul_assoc_pos : (a b : ℤ) (n : ℕ) → (a *ℤ b) *ℤ pos n ≡ a *ℤ (b *ℤ pos n)
mul_assoc_pos a b zero = *ℤ-zero (a *ℤ b) ∙ sym (rw (*ℤ-zero b) (*ℤ-zero a))
mul_assoc_pos a b (suc n) =
    mul-suc (a *ℤ b) n ∙ ap (λ x. x +ℤ a *ℤ b) (mul_assoc_pos a b n) ∙ sym (mul-add a (b *ℤ pos n) b) ∙ ap (λ x. a *ℤ x) (sym (mul-suc b n))

pub mul_assoc : (a b c : ℤ) → (a *ℤ b) *ℤ c ≡ a *ℤ (b *ℤ c)
mul_assoc a b (pos n) = mul_assoc_pos a b n
mul_assoc a b (negsuc n) =
    *ℤ-negsuc (a *ℤ b) n ∙ ap neg_ℤ (mul_assoc_pos a b (suc n)) ∙ sym (mul-neg a (b *ℤ pos (suc n))) ∙ ap (λ x. a *ℤ x) (sym (*ℤ-negsuc b n))

-- the middle factor goes last
pub mul_last : (a b c : ℤ) → (a *ℤ b) *ℤ c ≡ (a *ℤ c) *ℤ b
mul_last a b c = mul_assoc a b c ∙ ap (λ x. a *ℤ x) (*ℤ_comm b c) ∙ sym (mul_assoc a c b)
