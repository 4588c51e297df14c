-- Nine different numbers, in any order.
use Rattle.std.proofs.Common.{◌≡◌, ◌⊎◌, ℕ, zero, suc, ◌≤◌, ℤ, List, [], ◌∷◌, length, refl, sym, subst, ap, ◌∙◌, inl, inr, arith}
use Rattle.std.proofs.lemmas.Int.{ints, by_lt_z}
use lib.Signed.{◌<ℤ◌, ◌≤ℤ◌}
use Rattle.ival_core.specs.Sets.{Among, IsAscending, HoldsNine}
use Rattle.ival_core.proofs.Counting.{AllAbove-among, AllAbove-from_among}

-- no number comes twice
abbrev pub Distinct : List ℤ → Type 0
Distinct [] = Unit {0}
Distinct (x ∷ xs) = (Among xs x → ⊥) × Distinct xs

-- ys has x and the numbers of xs, in order
record Put (x : ℤ) (xs : List ℤ) : Type 0 where
  made : List ℤ
  longer : length made ≡ suc (length xs)
  ascending : IsAscending made
  has : (n : ℤ) → Among made n → (n ≡ x) ⊎ Among xs n

put : (x : ℤ) (xs : List ℤ) → IsAscending xs → (Among xs x → ⊥) → Put x xs
put x [] a h = record { made = x ∷ []; longer = refl; ascending = (tt, tt); has = λ n m. m }
put x (y ∷ ys) a h = by_lt_z x y
    (λ l. record {
      made = x ∷ y ∷ ys;
      longer = refl;
      ascending = (AllAbove-from_among x (y ∷ ys) (λ n m. elim m [ inl e ↦ subst (λ z. x <ℤ z) (sym e) l | inr k ↦ further x y n l (AllAbove-among y ys a.0 n k) ]), a);
      has = λ n m. m;
    })
    (λ l.
    let p = put x ys a.1 (λ m. h (inr m)) in
    let above : y <ℤ x = other x y l (λ e. h (inl e)) in
    record {
      made = y ∷ p.made;
      longer = ap suc p.longer;
      ascending = (AllAbove-from_among y p.made (λ n m. elim (p.has n m) [ inl e ↦ subst (λ z. y <ℤ z) (sym e) above | inr k ↦ AllAbove-among y ys a.0 n k ]), p.ascending);
      has = λ n m. elim m [ inl e ↦ inr (inl e) | inr k ↦ elim (p.has n k) [ inl e ↦ inl e | inr i ↦ inr (inr i) ] ];
    })
  where
    further : (x y n : ℤ) → x <ℤ y → y <ℤ n → x <ℤ n
    further x y n l k = omega (arith, ints)

    other : (x y : ℤ) → y ≤ℤ x → (x ≡ y → ⊥) → y <ℤ x
    other x y l h = by_lt_z y x (λ k. k) (λ k. absurd (h (omega (arith, ints))))

record Sorted (xs : List ℤ) : Type 0 where
  made : List ℤ
  same : length made ≡ length xs
  ascending : IsAscending made
  has : (n : ℤ) → Among made n → Among xs n

sorted : (xs : List ℤ) → Distinct xs → Sorted xs
sorted [] d = record { made = []; same = refl; ascending = tt; has = λ n m. m }
sorted (x ∷ xs) d =
    let s = sorted xs d.1 in
    let p = put x s.made s.ascending (λ m. d.0 (s.has x m)) in
    record {
      made = p.made;
      same = p.longer ∙ ap suc s.same;
      ascending = p.ascending;
      has = λ n m. elim (p.has n m) [ inl e ↦ inl e | inr k ↦ inr (s.has n k) ];
    }

pub nine_distinct : (P : ℤ → Type 0) (xs : List ℤ) → length xs ≡ 9 → Distinct xs → ((n : ℤ) → Among xs n → P n) → HoldsNine P
nine_distinct P xs e d f =
    let s = sorted xs d in
    record { some = s.made; nine = s.same ∙ e; ascending = s.ascending; held = λ n m. f n (s.has n m) }

-- f 0 to f (k - 1), the last one first
abbrev pub values : (ℕ → ℤ) → ℕ → List ℤ
values f zero = []
values f (suc k) = f k ∷ values f k

pub length-values : (f : ℕ → ℤ) (k : ℕ) → length (values f k) ≡ k
length-values f zero = refl
length-values f (suc k) = ap suc (length-values f k)

-- n is one of them
pub record Value (f : ℕ → ℤ) (k : ℕ) (n : ℤ) : Type 0 where
  pub at : ℕ
  pub below : suc at ≤ k
  pub is : n ≡ f at

pub among-values : (f : ℕ → ℤ) (k : ℕ) (n : ℤ) → Among (values f k) n → Value f k n
among-values f zero n m = absurd m
among-values f (suc k) n (inl e) = record { at = k; below = omega arith; is = e }
among-values f (suc k) n (inr m) = let v = among-values f k n m in record { at = v.at; below = omega (arith, v.below); is = v.is }

distinct_values : (f : ℕ → ℤ) (k : ℕ) → ((i j : ℕ) → suc i ≤ j → suc j ≤ k → f j ≡ f i → ⊥) → Distinct (values f k)
distinct_values f zero h = tt
distinct_values f (suc k) h = (
  (λ m. let v = among-values f k (f k) m in h v.at k v.below (omega arith) v.is),
  distinct_values f k (λ i j a b e. h i j a (omega arith) e),
)

-- nine values of a function that are all different
pub nine_values : (P : ℤ → Type 0) (f : ℕ → ℤ) → ((i j : ℕ) → suc i ≤ j → j ≤ 8 → f j ≡ f i → ⊥) → ((i : ℕ) → i ≤ 8 → P (f i)) → HoldsNine P
nine_values P f h g =
    nine_distinct P (values f 9) (length-values f 9) (distinct_values f 9 (λ i j a b e. h i j a (omega arith) e))
    (λ n m. let v = among-values f 9 n m in subst P (sym v.is) (g v.at (omega (arith, v.below))))
