-- The shapes to which sets are widened are sound, and hold what was widened.
use Rattle.std.proofs.Common.{◌≡◌, ℕ, ◌+◌, ◌*◌, ◌/◌, ◌<◌, ◌≤◌, ◌^◌, Bool, true, false, ℤ, pos, ◌+ℤ◌, ◌-◌, List, [], ◌∷◌, length, slice_index_or, refl, sym, subst, ap, ◌∙◌, inl, inr, arith}
use Rattle.std.specs.Prelude.{Option, None, Some, unwrap_or, neg_ℤ, unsigned_abs, int_lt, int_le, if◌then◌else◌, ◌||◌}
use Rattle.std.proofs.lemmas.Bool.{cases_lt}
use Rattle.std.proofs.lemmas.Int.{ints, by_lt_z}
use lib.Signed.{◌<ℤ◌, ◌≤ℤ◌}
use Rattle.ival_core.specs.declared.value.Shape.{Shape}
use Rattle.ival_core.specs.declared.value.Shape.TheVariants.{Few, Many}
use Rattle.ival_core.specs.declared.value.Ival.{Ival}
use Rattle.ival_core.specs.Ivals.{Holds, IsBounds, IsCongruence}
use Rattle.ival_core.specs.Ranges.{IsRange, InRange, first_from, ranged, run_shape}
use Rattle.ival_core.specs.Sets.{IsNumber, IsValid, IsAscending, AllNumbers, AreEnds, Among, Has, Steps, apart}
use Rattle.ival_core.specs.Views.{bounds_of, ends_of, congruence_of}
use Rattle.ival_core.specs.Widenings.{AreMarks, last_at_most, first_at_least, lower_end, upper_end, moved_shape, between, widened_from, widened}
use Rattle.ival_core.proofs.Congruences.{range_of, range_holds, IsCongruence-few, IsCongruence-many}
use Rattle.ival_core.proofs.Distances.{meets_self}
use Rattle.ival_core.proofs.Ends.{AreEnds-at}
use Rattle.ival_core.proofs.Queries.{IsBounds-many}
use Rattle.ival_core.proofs.Insertion.{Holds-number}
use Rattle.ival_core.proofs.Remainders.{range_numbers, ranged-none, ranged-run}
use Rattle.ival_core.proofs.RunShapes.{run_shape-has, run_shape-few, run_shape-many, steps_from-small, run_from-long, last_number, IsNumber-between}
use Rattle.ival_core.proofs.Orders.{le_true}
use Rattle.ival_plain.proofs.Sound.{few_valid}

-- ---- ranges

run_valid : (first high : ℤ) (stride more : ℕ) → IsNumber first → IsNumber high → first ≤ℤ high → 0 < stride → more ≡ apart first high / stride → IsValid (run_shape first stride more)
run_valid first high stride more a b h m e =
    let l = last_number first high stride more a b h m e in
    elim (cases_lt more 8) [
      | inl s ↦ subst IsValid (sym (run_shape-few first stride more s)) (steps_from-small first stride more a l m s)
      | inr s ↦ subst IsValid (sym (run_shape-many first stride more s)) (run_from-long first stride more a l m s)
    ]

moves : (lo hi rem modulus : ℤ) → IsRange lo hi rem modulus → 0 < unsigned_abs modulus
moves lo hi rem modulus r = let a = r.rest in let b = r.below in omega (arith, ints)

steps_lie : (first hi n : ℤ) (stride : ℕ) → Steps (record { low = first; high = hi; stride = stride }) n → first ≤ℤ hi
steps_lie first hi n stride s = let a : first ≤ℤ n = s.above in let b : n ≤ℤ hi = s.below in omega (arith, ints)

pub ranged_holds : (lo hi rem modulus n : ℤ) → IsRange lo hi rem modulus → InRange lo hi rem modulus n → Has (ranged lo hi rem modulus) n
ranged_holds lo hi rem modulus n r i =
    let first = first_from lo rem modulus in
    let s = (range_numbers lo hi rem modulus first r refl n).1 i in
    let h = steps_lie first hi n (unsigned_abs modulus) s in
    subst (λ t. Has t n) (sym (ranged-run lo hi rem modulus first refl h)) ((run_shape-has first hi (unsigned_abs modulus) h (moves lo hi rem modulus r) n).1 s)

-- the first number of a range lies in it
first_within : (lo hi rem modulus : ℤ) → IsRange lo hi rem modulus → first_from lo rem modulus ≤ℤ hi → lo ≤ℤ first_from lo rem modulus
first_within lo hi rem modulus r h =
    let first = first_from lo rem modulus in
    let i = (range_numbers lo hi rem modulus first r refl first).0 (record { above = itself first; below = h; meets = meets_self (unsigned_abs modulus) first }) in
    i.above
  where
    itself : (z : ℤ) → z ≤ℤ z
    itself z = omega (arith, ints)

pub ranged_valid : (lo hi rem modulus : ℤ) → IsRange lo hi rem modulus → IsValid (ranged lo hi rem modulus)
ranged_valid lo hi rem modulus r =
    let first = first_from lo rem modulus in
    by_lt_z hi first
    (λ l. subst IsValid (sym (ranged-none lo hi rem modulus first refl l)) few_valid)
    (λ h. subst IsValid (sym (ranged-run lo hi rem modulus first refl h))
    (run_valid first hi (unsigned_abs modulus) (apart first hi / unsigned_abs modulus) (IsNumber-between lo hi first r.low r.high (first_within lo hi rem modulus r h) h) r.high h (moves lo hi rem modulus r) refl))

-- ---- where bounds go

last_below : (found n : ℤ) (marks : List ℤ) → found ≤ℤ n → last_at_most found marks n ≤ℤ n
last_below found n [] h = h
last_below found n (m ∷ marks) h = by_test (int_le m n) refl (λ k l. last_below k n marks l)
  where
    by_test : (b : Bool) → int_le m n ≡ b → ((k : ℤ) → k ≤ℤ n → last_at_most k marks n ≤ℤ n) → (if b then last_at_most m marks n else last_at_most found marks n) ≤ℤ n
    by_test true e r = r m (le_true m n e)
    by_test false e r = r found h

mark_number : (found n : ℤ) (marks : List ℤ) → IsNumber found → AllNumbers marks → IsNumber (last_at_most found marks n)
mark_number found n [] h a = h
mark_number found n (m ∷ marks) h a = by_test (int_le m n) (λ k l. mark_number k n marks l a.1)
  where
    by_test : (b : Bool) → ((k : ℤ) → IsNumber k → IsNumber (last_at_most k marks n)) → IsNumber (if b then last_at_most m marks n else last_at_most found marks n)
    by_test true r = r m a.0
    by_test false r = r found h

first_above : (found n : ℤ) (marks : List ℤ) → n ≤ℤ found → n ≤ℤ first_at_least found marks n
first_above found n [] h = h
first_above found n (m ∷ marks) h = by_test (int_le n m) refl (first_above found n marks h)
  where
    by_test : (b : Bool) → int_le n m ≡ b → n ≤ℤ first_at_least found marks n → n ≤ℤ (if b then m else first_at_least found marks n)
    by_test true e r = le_true n m e
    by_test false e r = r

first_number : (found n : ℤ) (marks : List ℤ) → IsNumber found → AllNumbers marks → IsNumber (first_at_least found marks n)
first_number found n [] h a = h
first_number found n (m ∷ marks) h a = by_test (int_le n m) (first_number found n marks h a.1)
  where
    by_test : (b : Bool) → IsNumber (first_at_least found marks n) → IsNumber (if b then m else first_at_least found marks n)
    by_test true r = a.0
    by_test false r = r

-- an end that is a number, and no nearer than the bound
record Outer (Beyond : ℤ → Type 0) (end : ℤ) : Type 0 where
  beyond : Beyond end
  number : IsNumber end

least_number : IsNumber (neg_ℤ (pos (2 ^ 120)))
least_number = record { least = omega (arith, ints); greatest = omega (arith, ints) }

greatest_number : IsNumber (pos (2 ^ 120))
greatest_number = record { least = omega (arith, ints); greatest = omega (arith, ints) }

itself_le : (z : ℤ) → z ≤ℤ z
itself_le z = omega (arith, ints)

lower_outer : (marks : List ℤ) (low joined : ℤ) → AllNumbers marks → IsNumber joined → Outer (λ z. z ≤ℤ joined) (lower_end marks low joined)
lower_outer marks low joined a n = by_test (int_lt joined low)
  where
    by_test : (b : Bool) → Outer (λ z. z ≤ℤ joined) (if b then last_at_most (neg_ℤ (pos (2 ^ 120))) marks joined else joined)
    by_test true = record { beyond = last_below (neg_ℤ (pos (2 ^ 120))) joined marks n.least; number = mark_number (neg_ℤ (pos (2 ^ 120))) joined marks least_number a }
    by_test false = record { beyond = itself_le joined; number = n }

upper_outer : (marks : List ℤ) (high joined : ℤ) → AllNumbers marks → IsNumber joined → Outer (λ z. joined ≤ℤ z) (upper_end marks high joined)
upper_outer marks high joined a n = by_test (int_lt high joined)
  where
    by_test : (b : Bool) → Outer (λ z. joined ≤ℤ z) (if b then first_at_least (pos (2 ^ 120)) marks joined else joined)
    by_test true = record { beyond = first_above (pos (2 ^ 120)) joined marks n.greatest; number = first_number (pos (2 ^ 120)) joined marks greatest_number a }
    by_test false = record { beyond = itself_le joined; number = n }

-- ---- bounds and congruences

first_part : (a b : ℤ) (c d : ℤ) → ◌≡◌ {A = Option (ℤ × ℤ)} (Some (a, b)) (Some (c, d)) → a ≡ c
first_part a b c d e = ap (λ (o : Option (ℤ × ℤ)). (unwrap_or o (a, b)).0) e

second_part : (a b : ℤ) (c d : ℤ) → ◌≡◌ {A = Option (ℤ × ℤ)} (Some (a, b)) (Some (c, d)) → b ≡ d
second_part a b c d e = ap (λ (o : Option (ℤ × ℤ)). (unwrap_or o (a, b)).1) e

few_ends : (xs : List ℤ) (low high : ℤ) → IsAscending xs → ends_of xs ≡ Some (low, high) → AreEnds xs low high
few_ends [] low high a e = cc
few_ends (x ∷ xs) low high a e =
    let d : length (x ∷ xs) - 1 ≡ length xs = omega arith in
    let f = first_part x (slice_index_or (x ∷ xs) (length xs) x) low high e in
    let g = second_part x (slice_index_or (x ∷ xs) (length xs) x) low high e in
    let ends : AreEnds (x ∷ xs) x (slice_index_or (x ∷ xs) (length xs) x) = subst (λ k. AreEnds (x ∷ xs) x (slice_index_or (x ∷ xs) k x)) d (AreEnds-at (x ∷ xs) x a (omega arith)) in
    subst (λ z. AreEnds (x ∷ xs) z high) f (subst (AreEnds (x ∷ xs) x) g ends)

pub bounds_is : (v : Ival) (low high : ℤ) → bounds_of v.shape ≡ Some (low, high) → IsBounds v low high
bounds_is v low high e = at v.shape refl v.valid e
  where
    at : (s : Shape) → v.shape ≡ s → IsValid s → bounds_of s ≡ Some (low, high) → IsBounds v low high
    at (Few w) f l g =
        let a = few_ends w.items low high l.ascending g in
        record { first = subst (λ s. Has s low) (sym f) a.first; last = subst (λ s. Has s high) (sym f) a.last; between = λ n h. a.between n (subst (λ s. Has s n) f h) }
    at (Many p) f l g =
        subst (λ z. IsBounds v z high) (first_part p.low p.high low high g) (subst (IsBounds v p.low) (second_part p.low p.high low high g) (IsBounds-many v p f))

pub no_bounds : (v : Ival) (n : ℤ) → bounds_of v.shape ≡ None → Holds v n → ⊥
no_bounds v n e h = at v.shape e h
  where
    none : (xs : List ℤ) → ends_of xs ≡ None → Among xs n → ⊥
    none [] e a = a
    none (x ∷ xs) e a = cc

    at : (s : Shape) → bounds_of s ≡ None → Has s n → ⊥
    at (Few w) e a = none w.items e a
    at (Many p) e a = cc

congruence_is : (v : Ival) → IsCongruence v (congruence_of v.shape).0 (congruence_of v.shape).1
congruence_is v = at v.shape refl
  where
    at : (s : Shape) → v.shape ≡ s → IsCongruence v (congruence_of s).0 (congruence_of s).1
    at (Few w) f = IsCongruence-few v w f
    at (Many p) f = IsCongruence-many v p f

-- ---- what is widened

-- a sound shape that has all numbers of a set
pub record Covers (j : Ival) (s : Shape) : Type 0 where
  pub valid : IsValid s
  pub holds : (n : ℤ) → Holds j n → Has s n

moved_covers : (marks : List ℤ) (low high least greatest : ℤ) (j : Ival) → AreMarks marks → IsBounds j least greatest → Covers j (moved_shape marks low high j.shape least greatest)
moved_covers marks low high least greatest j m b =
    let c = congruence_is j in
    let rem = (congruence_of j.shape).0 in
    let modulus = (congruence_of j.shape).1 in
    let l = lower_outer marks low least m.numbers (Holds-number j least b.first) in
    let u = upper_outer marks high greatest m.numbers (Holds-number j greatest b.last) in
    let r = range_of j least greatest (lower_end marks low least) (upper_end marks high greatest) rem modulus b c l.beyond l.number u.beyond u.number in
    record {
      valid = ranged_valid (lower_end marks low least) (upper_end marks high greatest) rem modulus r;
      holds = λ n h. ranged_holds (lower_end marks low least) (upper_end marks high greatest) rem modulus n r
          (range_holds j least greatest (lower_end marks low least) (upper_end marks high greatest) rem modulus n b c l.beyond u.beyond h);
    }

pub widened_covers : (a j : Ival) (marks : List ℤ) → AreMarks marks → Covers j (widened a.shape j.shape marks)
widened_covers a j marks m = from (bounds_of a.shape)
  where
    own : Covers j j.shape
    own = record { valid = j.valid; holds = λ n h. h }

    by_ends : (low high : ℤ) (o : Option (ℤ × ℤ)) → bounds_of j.shape ≡ o → Covers j (between marks low high j.shape o)
    by_ends low high None e = own
    by_ends low high (Some ends) e = by_test (int_lt ends.0 low || int_lt high ends.1)
      where
        by_test : (b : Bool) → Covers j (if b then moved_shape marks low high j.shape ends.0 ends.1 else j.shape)
        by_test true = moved_covers marks low high ends.0 ends.1 j m (bounds_is j ends.0 ends.1 e)
        by_test false = own

    from : (o : Option (ℤ × ℤ)) → Covers j (widened_from marks j.shape o)
    from None = own
    from (Some ends) = by_ends ends.0 ends.1 (bounds_of j.shape) refl
