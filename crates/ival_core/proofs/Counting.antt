-- Ascending lists: what they hold, and that one which lies in another is no longer.
use Rattle.std.proofs.Common.{◌≡◌, ◌⊎◌, ℕ, ◌+◌, ◌<◌, ◌≤◌, ℤ, List, [], ◌∷◌, ◌++◌, length, take, get_or, refl, sym, subst, inl, inr, arith}
use Rattle.std.proofs.lemmas.Int.{ints}
use Rattle.std.proofs.lemmas.List.{take_more}
use lib.Signed.{◌<ℤ◌}
use Rattle.ival_core.specs.Sets.{Among, AllAbove, IsAscending}

pub AllAbove-among : (x : ℤ) (ys : List ℤ) → AllAbove x ys → (n : ℤ) → Among ys n → x <ℤ n
AllAbove-among x [] h n m = absurd m
AllAbove-among x (y ∷ ys) h n (inl e) = subst (λ z. x <ℤ z) (sym e) h.0
AllAbove-among x (y ∷ ys) h n (inr m) = AllAbove-among x ys h.1 n m

pub AllAbove-from_among : (x : ℤ) (ys : List ℤ) → ((n : ℤ) → Among ys n → x <ℤ n) → AllAbove x ys
AllAbove-from_among x [] h = tt
AllAbove-from_among x (y ∷ ys) h = (h y (inl refl), AllAbove-from_among x ys (λ n m. h n (inr m)))

-- xs has no number that ys lacks
pub record Inside (xs ys : List ℤ) : Type 0 where
  pub has : (n : ℤ) → Among xs n → Among ys n

-- where all of xs lie above y, none of them is y
pub not_head : (xs : List ℤ) (y : ℤ) (ys : List ℤ) → ((n : ℤ) → Among xs n → y <ℤ n) → Inside xs (y ∷ ys) → Inside xs ys
not_head xs y ys above h = record { has = λ n m. elim (h.has n m) [ inl e ↦ absurd (apart_from y n (above n m) e) | inr k ↦ k ] }
  where
    apart_from : (y n : ℤ) → y <ℤ n → n ≡ y → ⊥
    apart_from y n h e = omega (arith, ints)

-- so it is no longer than ys
pub fits : (xs ys : List ℤ) → IsAscending xs → IsAscending ys → Inside xs ys → length xs ≤ length ys
fits [] ys a b h = omega arith
fits (x ∷ xs) [] a b h = absurd (h.has x (inl refl))
fits (x ∷ xs) (y ∷ ys) a b h =
    elim (h.has x (inl refl)) [
      | inl e ↦
          let above : (n : ℤ) → Among xs n → y <ℤ n = λ n m. subst (λ z. z <ℤ n) e (AllAbove-among x xs a.0 n m) in
          let rest : Inside xs (y ∷ ys) = record { has = λ n m. h.has n (inr m) } in
          let less : length xs ≤ length ys = fits xs ys a.1 b.1 (not_head xs y ys above rest) in
          omega arith
      | inr k ↦
          let low : y <ℤ x = AllAbove-among y ys b.0 x k in
          let above : (n : ℤ) → Among (x ∷ xs) n → y <ℤ n = λ n m. above_head y x xs a.0 low n m in
          let less : length (x ∷ xs) ≤ length ys = fits (x ∷ xs) ys a b.1 (not_head (x ∷ xs) y ys above h) in
          omega arith
    ]
  where
    above_head : (y x : ℤ) (xs : List ℤ) → AllAbove x xs → y <ℤ x → (n : ℤ) → Among (x ∷ xs) n → y <ℤ n
    above_head y x xs h low n (inl e) = subst (λ z. y <ℤ z) (sym e) low
    above_head y x xs h low n (inr m) = let l : x <ℤ n = AllAbove-among x xs h n m in omega (arith, ints)

-- what two lists hold, one after the other
pub Among-left : (xs ys : List ℤ) (n : ℤ) → Among xs n → Among (xs ++ ys) n
Among-left [] ys n m = absurd m
Among-left (x ∷ xs) ys n (inl e) = inl e
Among-left (x ∷ xs) ys n (inr m) = inr (Among-left xs ys n m)

pub Among-right : (xs ys : List ℤ) (n : ℤ) → Among ys n → Among (xs ++ ys) n
Among-right [] ys n m = m
Among-right (x ∷ xs) ys n m = inr (Among-right xs ys n m)

pub Among-split : (xs ys : List ℤ) (n : ℤ) → Among (xs ++ ys) n → Among xs n ⊎ Among ys n
Among-split [] ys n m = inr m
Among-split (x ∷ xs) ys n (inl e) = inl (inl e)
Among-split (x ∷ xs) ys n (inr m) = elim (Among-split xs ys n m) [ inl a ↦ inl (inr a) | inr b ↦ inr b ]

pub Among-one : (xs : List ℤ) (x n : ℤ) → Among (xs ++ x ∷ []) n → Among xs n ⊎ (n ≡ x)
Among-one xs x n m = elim (Among-split xs (x ∷ []) n m) [ inl a ↦ inl a | inr b ↦ inr (elim b [ inl e ↦ e | inr f ↦ absurd f ]) ]

-- the first k + 1 numbers are the first k and the one at k
pub Among-take_more : (xs : List ℤ) (k : ℕ) (d n : ℤ) → k < length xs → Among (take (k + 1) xs) n → Among (take k xs) n ⊎ (n ≡ get_or xs k d)
Among-take_more xs k d n h m = Among-one (take k xs) (get_or xs k d) n (subst (λ ys. Among ys n) (take_more xs k d h) m)

pub Among-take_left : (xs : List ℤ) (k : ℕ) (d n : ℤ) → k < length xs → Among (take k xs) n ⊎ (n ≡ get_or xs k d) → Among (take (k + 1) xs) n
Among-take_left xs k d n h (inl m) = subst (λ ys. Among ys n) (sym (take_more xs k d h)) (Among-left (take k xs) (get_or xs k d ∷ []) n m)
Among-take_left xs k d n h (inr e) = subst (λ ys. Among ys n) (sym (take_more xs k d h)) (Among-right (take k xs) (get_or xs k d ∷ []) n (inl e))
