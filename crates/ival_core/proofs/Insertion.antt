-- A number put into an ascending list, and least sets built one number at a time.
use Rattle.std.proofs.Common.{◌≡◌, ◌⊎◌, ℕ, zero, suc, ◌<◌, ℤ, List, [], ◌∷◌, ◌++◌, length, take, drop, get_or, refl, sym, subst, ap, ◌∙◌, inl, inr, arith}
use Rattle.std.proofs.lemmas.Int.{ints, by_lt_z}
use Rattle.std.proofs.lemmas.List.{take-append-drop}
use Rattle.arrayvec.specs.ArrayVec.{ArrayVec}
use lib.Signed.{◌<ℤ◌, ◌≤ℤ◌}
use Rattle.ival_core.specs.declared.value.Shape.{Shape}
use Rattle.ival_core.specs.declared.value.Shape.TheVariants.{Few, Many}
use Rattle.ival_core.specs.declared.value.Ival.{Ival}
use Rattle.ival_core.specs.Ivals.{Holds}
use Rattle.ival_core.proofs.Runs.{Steps-number}
use Rattle.ival_core.specs.Sets.{Among, IsAscending, AllNumbers, IsNumber, IsSmallSet, IsValid, IsLeast, Has, HoldsNine}
use Rattle.ival_core.proofs.Counting.{AllAbove-among, AllAbove-from_among, Among-right}
use Rattle.ival_core.proofs.Ends.{at_head}

pub AllNumbers-among : (xs : List ℤ) → AllNumbers xs → (n : ℤ) → Among xs n → IsNumber n
AllNumbers-among [] h n m = absurd m
AllNumbers-among (x ∷ xs) h n (inl e) = subst IsNumber (sym e) h.0
AllNumbers-among (x ∷ xs) h n (inr m) = AllNumbers-among xs h.1 n m

pub AllNumbers-from_among : (xs : List ℤ) → ((n : ℤ) → Among xs n → IsNumber n) → AllNumbers xs
AllNumbers-from_among [] h = tt
AllNumbers-from_among (x ∷ xs) h = (h x (inl refl), AllNumbers-from_among xs (λ n m. h n (inr m)))

-- no number from place i on is below the one at i
pub drop_above : (xs : List ℤ) (i : ℕ) (d x n : ℤ) → IsAscending xs → x ≤ℤ get_or xs i d → Among (drop i xs) n → x ≤ℤ n
drop_above [] zero d x n a h m = absurd m
drop_above [] (suc i) d x n a h m = absurd m
drop_above (y ∷ ys) zero d x n a h m = let l : y ≤ℤ n = at_head (y ∷ ys) d n a m in omega (arith, ints)
drop_above (y ∷ ys) (suc i) d x n a h m = drop_above ys i d x n a.1 h m

-- the numbers before place i are below the one at i
pub take_below : (xs : List ℤ) (i : ℕ) (d n : ℤ) → IsAscending xs → i < length xs → Among (take i xs) n → n <ℤ get_or xs i d
take_below [] i d n a h m = absurd (omega arith)
take_below (y ∷ ys) zero d n a h m = absurd m
take_below (y ∷ ys) (suc i) d n a h (inl e) =
    subst (λ z. z <ℤ get_or ys i d) (sym e) (AllAbove-among y ys a.0 (get_or ys i d) (at ys i d (omega arith)))
  where
    at : (xs : List ℤ) (k : ℕ) (d : ℤ) → k < length xs → Among xs (get_or xs k d)
    at [] k d h = absurd (omega arith)
    at (x ∷ xs) zero d h = inl refl
    at (x ∷ xs) (suc k) d h = inr (at xs k d (omega arith))
take_below (y ∷ ys) (suc i) d n a h (inr m) = take_below ys i d n a.1 (omega arith) m

-- ys is xs with x put in, in order
pub record Inserted (xs : List ℤ) (x : ℤ) (ys : List ℤ) : Type 0 where
  pub longer : length ys ≡ suc (length xs)
  pub ascending : IsAscending ys
  pub has : (n : ℤ) → Among ys n → Among xs n ⊎ (n ≡ x)
  pub keeps : (n : ℤ) → Among xs n ⊎ (n ≡ x) → Among ys n

between : (a b : List ℤ) (x : ℤ) → IsAscending (a ++ b) → ((n : ℤ) → Among a n → n <ℤ x) → ((n : ℤ) → Among b n → x <ℤ n) → Inserted (a ++ b) x (a ++ x ∷ b)
between [] b x s f g = record {
  longer = refl;
  ascending = (AllAbove-from_among x b g, s);
  has = λ n m. elim m [ inl e ↦ inr e | inr k ↦ inl k ];
  keeps = λ n m. elim m [ inl k ↦ inr k | inr e ↦ inl e ];
}
between (y ∷ a) b x s f g =
    let r : Inserted (a ++ b) x (a ++ x ∷ b) = between a b x s.1 (λ n m. f n (inr m)) g in
    let low : y <ℤ x = f y (inl refl) in
    record {
      longer = ap suc r.longer;
      ascending = (AllAbove-from_among y (a ++ x ∷ b) (λ n m. elim (r.has n m) [ inl k ↦ AllAbove-among y (a ++ b) s.0 n k | inr e ↦ subst (λ z. y <ℤ z) (sym e) low ]), r.ascending);
      has = λ n m. elim m [ inl e ↦ inl (inl e) | inr k ↦ elim (r.has n k) [ inl p ↦ inl (inr p) | inr e ↦ inr e ] ];
      keeps = λ n m. elim m [ inl k ↦ elim k [ inl e ↦ inl e | inr p ↦ inr (r.keeps n (inl p)) ] | inr e ↦ inr (r.keeps n (inr e)) ];
    }

-- x put in at its place among xs, of which it is none
pub insertion : (xs : List ℤ) (i : ℕ) (x : ℤ) → IsAscending xs → (Among xs x → ⊥) → ((n : ℤ) → Among (take i xs) n → n <ℤ x) → ((n : ℤ) → Among (drop i xs) n → x ≤ℤ n) → Inserted xs x (take i xs ++ x ∷ drop i xs)
insertion xs i x a absent f g =
    let e : take i xs ++ drop i xs ≡ xs = take-append-drop i xs in
    let above : (n : ℤ) → Among (drop i xs) n → x <ℤ n =
    λ n m. strictly x n (g n m) (λ k. absent (subst (λ z. Among xs z) (sym k) (subst (λ ys. Among ys n) e (Among-right (take i xs) (drop i xs) n m)))) in
    subst (λ ys. Inserted ys x (take i xs ++ x ∷ drop i xs)) e
    (between (take i xs) (drop i xs) x (subst IsAscending (sym e) a) f above)
  where
    strictly : (x n : ℤ) → x ≤ℤ n → (x ≡ n → ⊥) → x <ℤ n
    strictly x n h k = by_lt_z x n (λ l. l) (λ l. absurd (k (omega (arith, ints))))

-- a small set is least round its own numbers
pub IsLeast-exact : (P : ℤ → Type 0) (v : ArrayVec ℤ) → ((n : ℤ) → P n → Among v.items n) → ((n : ℤ) → Among v.items n → P n) → IsLeast P (Few v)
IsLeast-exact P v f g = record { holds = f; least = λ u valid all n m. all n (g n m) }

pub IsLeast-same : (P Q : ℤ → Type 0) (s : Shape) → ((n : ℤ) → P n → Q n) → ((n : ℤ) → Q n → P n) → IsLeast P s → IsLeast Q s
IsLeast-same P Q s f g h = record { holds = λ n m. h.holds n (g n m); least = λ u valid all n m. h.least u valid (λ k p. all k (f k p)) n m }

-- least round what is least round P and one number more
pub IsLeast-more : (P : ℤ → Type 0) (x : ℤ) (s t : Shape) → IsLeast P s → IsLeast (λ n. Has s n ⊎ (n ≡ x)) t → IsLeast (λ n. P n ⊎ (n ≡ x)) t
IsLeast-more P x s t h k = record {
  holds = λ n m. elim m [ inl p ↦ k.holds n (inl (h.holds n p)) | inr e ↦ k.holds n (inr e) ];
  least = λ u valid all n m.
      k.least u valid
      (λ j q. elim q [ inl w ↦ h.least u valid (λ i p. all i (inl p)) j w | inr e ↦ all j (inr e) ]) n m;
}

-- a set with room takes the number in
pub IsSmallSet-inserted : (xs ys : List ℤ) (x : ℤ) → IsSmallSet xs → IsNumber x → length xs < 8 → Inserted xs x ys → IsSmallSet ys
IsSmallSet-inserted xs ys x h k l r = record {
  small = let e = r.longer in omega arith;
  ascending = r.ascending;
  numbers = AllNumbers-from_among ys (λ n m. elim (r.has n m) [ inl a ↦ AllNumbers-among xs h.numbers n a | inr e ↦ subst IsNumber (sym e) k ]);
}

-- a full set and one number more are 9
pub nine_inserted : (xs ys : List ℤ) (x : ℤ) → length xs ≡ 8 → Inserted xs x ys → HoldsNine (λ n. Among xs n ⊎ (n ≡ x))
nine_inserted xs ys x e r = record { some = ys; nine = r.longer ∙ ap suc e; ascending = r.ascending; held = r.has }

-- the same, told of two copies of the list
pub insertion_of : (xs ys zs : List ℤ) (i : ℕ) (x : ℤ) → ys ≡ xs → zs ≡ xs → IsAscending xs → (Among ys x → ⊥) → ((n : ℤ) → Among (take i zs) n → n <ℤ x) → ((n : ℤ) → Among (drop i zs) n → x ≤ℤ n) → Inserted xs x (take i xs ++ x ∷ drop i xs)
insertion_of xs ys zs i x e f a absent g h =
    insertion xs i x a (λ m. absent (subst (λ l. Among l x) (sym e) m)) (λ n m. g n (subst (λ l. Among (take i l) n) (sym f) m)) (λ n m. h n (subst (λ l. Among (drop i l) n) (sym f) m))

pub IsLeast-inserted : (xs : List ℤ) (x : ℤ) (v : ArrayVec ℤ) → Inserted xs x v.items → IsLeast (λ n. Among xs n ⊎ (n ≡ x)) (Few v)
IsLeast-inserted xs x v r = IsLeast-exact (λ n. Among xs n ⊎ (n ≡ x)) v r.keeps r.has

-- what an `Ival` holds, it may hold
pub Holds-number : (v : Ival) (n : ℤ) → Holds v n → IsNumber n
Holds-number v n h = go v.shape v.valid n h
  where
    go : (s : Shape) → IsValid s → (n : ℤ) → Has s n → IsNumber n
    go (Few few) a n h = AllNumbers-among few.items a.numbers n h
    go (Many p) a n h = Steps-number p n a h
