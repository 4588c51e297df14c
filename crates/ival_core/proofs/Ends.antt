-- The first and the last number of an ascending list.
use Rattle.std.proofs.Common.{◌≡◌, ℕ, zero, suc, ◌-◌, ◌<◌, ℤ, List, [], ◌∷◌, length, get_or, refl, sym, subst, inl, inr, arith}
use Rattle.std.proofs.lemmas.Int.{ints}
use lib.Signed.{◌<ℤ◌, ◌≤ℤ◌, ≤ℤ_refl}
use Rattle.ival_core.specs.Sets.{Among, IsAscending, AreEnds}
use Rattle.ival_core.proofs.Counting.{AllAbove-among}

pub Among-at : (xs : List ℤ) (k : ℕ) (d : ℤ) → k < length xs → Among xs (get_or xs k d)
Among-at [] k d h = absurd (omega arith)
Among-at (x ∷ xs) zero d h = inl refl
Among-at (x ∷ xs) (suc k) d h = inr (Among-at xs k d (omega arith))

pub at_head : (xs : List ℤ) (d n : ℤ) → IsAscending xs → Among xs n → get_or xs 0 d ≤ℤ n
at_head [] d n a m = absurd m
at_head (x ∷ xs) d n a (inl e) = subst (λ z. x ≤ℤ z) (sym e) (≤ℤ_refl x)
at_head (x ∷ xs) d n a (inr m) = let l : x <ℤ n = AllAbove-among x xs a.0 n m in omega (arith, ints)

-- no number of an ascending list is above the one at its last place
pub at_last : (xs : List ℤ) (k : ℕ) (d n : ℤ) → IsAscending xs → suc k ≡ length xs → Among xs n → n ≤ℤ get_or xs k d
at_last [] k d n a e m = absurd m
at_last (x ∷ []) zero d n a e (inl m) = subst (λ z. z ≤ℤ x) (sym m) (≤ℤ_refl x)
at_last (x ∷ []) zero d n a e (inr m) = absurd m
at_last (x ∷ []) (suc k) d n a e m = absurd (omega arith)
at_last (x ∷ y ∷ ys) zero d n a e m = absurd (omega arith)
at_last (x ∷ y ∷ ys) (suc k) d n a e (inl m) =
    let l : y ≤ℤ get_or (y ∷ ys) k d = at_last (y ∷ ys) k d y a.1 (omega arith) (inl refl) in
    let b : x <ℤ y = a.0.0 in
    omega (arith, ints)
at_last (x ∷ y ∷ ys) (suc k) d n a e (inr m) = at_last (y ∷ ys) k d n a.1 (omega arith) m

pub AreEnds-at : (xs : List ℤ) (d : ℤ) → IsAscending xs → 0 < length xs → AreEnds xs (get_or xs 0 d) (get_or xs (length xs - 1) d)
AreEnds-at xs d a h = record {
  first = Among-at xs 0 d h;
  last = Among-at xs (length xs - 1) d (omega arith);
  between = λ n m. (at_head xs d n a m, at_last xs (length xs - 1) d n a (omega arith) m);
}
