-- Sets of one number.
use Rattle.std.proofs.Common.{◌≡◌, ◌↔◌, ℕ, ◌*◌, ◌<◌, ℤ, pos, ◌+ℤ◌, List, [], ◌∷◌, length, refl, sym, subst, ap, inl, inr, arith}
use Rattle.std.proofs.lemmas.Int.{ints}
use lib.Signed.{◌<ℤ◌}
use Rattle.ival_core.specs.declared.value.Shape.{Shape}
use Rattle.ival_core.specs.declared.value.Shape.TheVariants.{Few, Many}
use Rattle.ival_core.specs.Sets.{Among, IsAscending, IsValid, Has, HoldsNine}
use Rattle.ival_arith.proofs.Adding.{at_first}
use Rattle.ival_arith.proofs.Fits.{Fits}

ascends : (a b x : ℤ) → a <ℤ b → a ≡ x → b ≡ x → ⊥
ascends a b x l e f = omega (arith, ints)

-- a sound shape with one number is a list of it
pub single_shape : (s : Shape) (x : ℤ) → IsValid s → ((k : ℤ) → Has s k ↔ (k ≡ x)) → s ≡ Few (record { items = x ∷ [] })
single_shape (Many p) x l h =
    let e = (h (p.low +ℤ pos (0 * p.stride))).0 (at_first p l 0 (omega arith)) in
    let f = (h (p.low +ℤ pos (1 * p.stride))).0 (at_first p l 1 (omega arith)) in
    let m = l.moves in absurd (two p.low p.stride x e f m)
  where
    two : (low : ℤ) (s : ℕ) (x : ℤ) → low +ℤ pos (0 * s) ≡ x → low +ℤ pos (1 * s) ≡ x → 0 < s → ⊥
    two low s x e f m = omega (arith, ints)
single_shape (Few v) x l h = by_items v.items l.ascending h
  where
    by_items : (xs : List ℤ) → IsAscending xs → ((k : ℤ) → Among xs k ↔ (k ≡ x)) → Few (record { items = xs }) ≡ Few (record { items = x ∷ [] })
    by_items [] a h = absurd ((h x).1 refl)
    by_items (y ∷ []) a h = ap (λ z. Few (record { items = z ∷ [] })) ((h y).0 (inl refl))
    by_items (y ∷ z ∷ ys) a h = absurd (ascends y z x a.0.0 ((h y).0 (inl refl)) ((h z).0 (inr (inl refl))))

-- nine numbers are not one
not_nine : (P : ℤ → Type 0) (x : ℤ) → ((n : ℤ) → P n → n ≡ x) → HoldsNine P → ⊥
not_nine P x h nine = by_items nine.some nine.nine nine.ascending (λ n m. h n (nine.held n m))
  where
    by_items : (xs : List ℤ) → length xs ≡ 9 → IsAscending xs → ((k : ℤ) → Among xs k → k ≡ x) → ⊥
    by_items [] l a h = omega (arith, l)
    by_items (y ∷ []) l a h = omega (arith, l)
    by_items (y ∷ z ∷ ys) l a h = ascends y z x a.0.0 (h y (inl refl)) (h z (inr (inl refl)))

pub fits_single : (P : ℤ → Type 0) (s : Shape) (x : ℤ) → Fits P s → P x → ((n : ℤ) → P n → n ≡ x) → s ≡ Few (record { items = x ∷ [] })
fits_single P s x f p h =
    single_shape s x f.valid (λ k. (
      (λ m. elim f.sharp [ inl only ↦ h k (only k m) | inr nine ↦ absurd (not_nine P x h nine) ]),
      (λ e. subst (Has s) (sym e) (f.holds x p)),
    ))
