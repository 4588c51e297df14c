-- From the least shape to the least `Ival`.
use Rattle.std.proofs.Common.{◌≡◌, ◌⊎◌, ℕ, ◌+◌, ◌<◌, ℤ, List, length, take, get_or, sym, subst, inl, inr}
use Rattle.arrayvec.specs.ArrayVec.{ArrayVec}
use Rattle.ival_core.specs.declared.value.Progression.{Progression}
use Rattle.ival_core.specs.declared.value.Shape.TheVariants.{Few, Many}
use Rattle.ival_core.specs.declared.value.Ival.{Ival}
use Rattle.ival_core.specs.Sets.{Among, IsNumber, IsSmallSet, IsLongRun, IsLeast, Has, Steps, HoldsNine, steps_from}
use Rattle.ival_core.specs.Hulls.{Spans, IsHull}
use Rattle.ival_core.specs.Ivals.{Holds, IsJoin}
use Rattle.ival_core.proofs.Counting.{Among-take_more, Among-take_left}
use Rattle.ival_core.proofs.Hulls.{Spans-hull, Spans-run, Spans-long, Spans-IsLeast}
use Rattle.ival_core.proofs.Insertion.{Inserted, IsLeast-same, IsLeast-more, nine_inserted, AllNumbers-among}
use Rattle.ival_core.proofs.Runs.{Steps-nine, length-steps_from, steps_from-ascending, Steps-number}

nine_run : (p : Progression) → IsLongRun p → HoldsNine (Steps p)
nine_run p l = record {
  some = steps_from p.low p.stride 9;
  nine = length-steps_from p.low p.stride 9;
  ascending = steps_from-ascending p.low p.stride 9 l.moves;
  held = Steps-nine p l;
}

nine_left : (P Q : ℤ → Type 0) → HoldsNine P → HoldsNine (λ n. P n ⊎ Q n)
nine_left P Q h = record { some = h.some; nine = h.nine; ascending = h.ascending; held = λ n m. inl (h.held n m) }

-- the hull of a long run and what Q spans
run_spans : (Q : ℤ → Type 0) (p q r : Progression) → IsLongRun p → Spans Q q → IsHull p q r → Spans (λ n. Steps p n ⊎ Q n) r
run_spans Q p q r l h u = Spans-hull (Steps p) Q p q r (Spans-run p l) h u

pub run_long : (Q : ℤ → Type 0) (p q r : Progression) → IsLongRun p → ((n : ℤ) → Q n → IsNumber n) → Spans Q q → IsHull p q r → IsLongRun r
run_long Q p q r l f h u =
    Spans-long (λ n. Steps p n ⊎ Q n) r (nine_left (Steps p) Q (nine_run p l))
    (λ n m. elim m [ inl s ↦ Steps-number p n l s | inr k ↦ f n k ]) (run_spans Q p q r l h u)

pub run_least : (Q : ℤ → Type 0) (p q r : Progression) → IsLongRun p → Spans Q q → IsHull p q r → IsLeast (λ n. Steps p n ⊎ Q n) (Many r)
run_least Q p q r l h u = Spans-IsLeast (λ n. Steps p n ⊎ Q n) r (nine_left (Steps p) Q (nine_run p l)) (run_spans Q p q r l h u)

-- the hull of a full set and one number more
pub full_long : (xs ys : List ℤ) (x : ℤ) (p q r : Progression) → IsSmallSet xs → IsNumber x → length xs ≡ 8 → Inserted xs x ys → Spans (Among xs) p → Spans (λ n. n ≡ x) q → IsHull p q r → IsLongRun r
full_long xs ys x p q r s k e i h g u =
    Spans-long (λ n. Among xs n ⊎ (n ≡ x)) r (nine_inserted xs ys x e i)
    (λ n m. elim m [ inl a ↦ AllNumbers-among xs s.numbers n a | inr e ↦ subst IsNumber (sym e) k ])
    (Spans-hull (Among xs) (λ n. n ≡ x) p q r h g u)

pub full_least : (xs ys : List ℤ) (x : ℤ) (p q r : Progression) → length xs ≡ 8 → Inserted xs x ys → Spans (Among xs) p → Spans (λ n. n ≡ x) q → IsHull p q r → IsLeast (λ n. Among xs n ⊎ (n ≡ x)) (Many r)
full_least xs ys x p q r e i h g u =
    Spans-IsLeast (λ n. Among xs n ⊎ (n ≡ x)) r (nine_inserted xs ys x e i) (Spans-hull (Among xs) (λ n. n ≡ x) p q r h g u)

-- the loop over the numbers of the small side
pub with_next : (v w t : Ival) (xs : List ℤ) (i : ℕ) (d : ℤ) → i < length xs → IsLeast (λ n. Holds v n ⊎ Among (take i xs) n) w.shape → IsLeast (λ n. Holds w n ⊎ (n ≡ get_or xs i d)) t.shape → IsLeast (λ n. Holds v n ⊎ Among (take (i + 1) xs) n) t.shape
with_next v w t xs i d l h k =
    IsLeast-same (λ n. (Holds v n ⊎ Among (take i xs) n) ⊎ (n ≡ get_or xs i d)) (λ n. Holds v n ⊎ Among (take (i + 1) xs) n) t.shape
    (λ n m. elim m [ inl a ↦ elim a [ inl p ↦ inl p | inr b ↦ inr (Among-take_left xs i d n l (inl b)) ] | inr e ↦ inr (Among-take_left xs i d n l (inr e)) ])
    (λ n m. elim m [ inl p ↦ inl (inl p) | inr b ↦ elim (Among-take_more xs i d n l b) [ inl a ↦ inl (inr a) | inr e ↦ inr e ] ])
    (IsLeast-more (λ n. Holds v n ⊎ Among (take i xs) n) (get_or xs i d) w.shape t.shape h k)

pub IsJoin-from : (a b v : Ival) → IsLeast (λ n. Holds a n ⊎ Holds b n) v.shape → IsJoin a b v
IsJoin-from a b v h = record {
  first = λ n m. h.holds n (inl m);
  second = λ n m. h.holds n (inr m);
  least = λ u f g n m. h.least u.shape u.valid (λ k p. elim p [ inl x ↦ f k x | inr y ↦ g k y ]) n m;
}

-- the second set is small
pub join_few : (a b v : Ival) (few : ArrayVec ℤ) (xs : List ℤ) → b.shape ≡ Few few → xs ≡ few.items → IsLeast (λ n. Holds a n ⊎ Among xs n) v.shape → IsJoin a b v
join_few a b v few xs e f h =
    IsJoin-from a b v (IsLeast-same (λ n. Holds a n ⊎ Among xs n) (λ n. Holds a n ⊎ Holds b n) v.shape
    (λ n m. elim m [ inl p ↦ inl p | inr q ↦ inr (subst (λ s. Has s n) (sym e) (subst (λ ys. Among ys n) f q)) ])
    (λ n m. elim m [ inl p ↦ inl p | inr q ↦ inr (subst (λ ys. Among ys n) (sym f) (subst (λ s. Has s n) e q)) ]) h)

-- the sides are told the other way round
pub IsJoin-turned : (a b v : Ival) → IsJoin a b v → IsJoin b a v
IsJoin-turned a b v h = record { first = h.second; second = h.first; least = λ u f g. h.least u g f }

-- both sets are long
pub join_many : (a b v : Ival) (p q : Progression) → a.shape ≡ Many p → b.shape ≡ Many q → IsLeast (λ n. Steps p n ⊎ Steps q n) v.shape → IsJoin a b v
join_many a b v p q e f h =
    IsJoin-from a b v (IsLeast-same (λ n. Steps p n ⊎ Steps q n) (λ n. Holds a n ⊎ Holds b n) v.shape
    (λ n m. elim m [ inl x ↦ inl (subst (λ s. Has s n) (sym e) x) | inr y ↦ inr (subst (λ s. Has s n) (sym f) y) ])
    (λ n m. elim m [ inl x ↦ inl (subst (λ s. Has s n) e x) | inr y ↦ inr (subst (λ s. Has s n) f y) ]) h)

-- a long set and one number more
pub with_run_of : (v w : Ival) (p : Progression) (x : ℤ) → v.shape ≡ Many p → IsLeast (λ n. Steps p n ⊎ (n ≡ x)) w.shape → IsLeast (λ n. Holds v n ⊎ (n ≡ x)) w.shape
with_run_of v w p x e h = subst (λ s. IsLeast (λ n. Has s n ⊎ (n ≡ x)) w.shape) (sym e) h
