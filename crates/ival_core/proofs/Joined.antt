-- The plain function of `join` answers the least set.
use Rattle.std.proofs.Common.{◌≡◌, ◌⊎◌, ℕ, zero, suc, ◌+◌, ◌-◌, ◌*◌, ◌%◌, ◌<◌, ◌≤◌, ◌==◌, Bool, true, false, cond, ℤ, pos, ◌+ℤ◌, ◌-ℤ◌, List, [], ◌∷◌, length, refl, sym, subst, ap, ◌∙◌, inl, inr, arith}
use Rattle.std.specs.Prelude.{int_lt, nat_lt, unsigned_abs}
use Rattle.std.proofs.lemmas.Int.{ints, by_lt_z}
use Rattle.std.proofs.lemmas.Bool.Decides.{nat_tests}
use Rattle.std.proofs.lemmas.Nat.{mod_below}
use Rattle.std.proofs.lemmas.Nat.Gcd.{IsGcd-from_zero, IsGcd-from_mod}
use Rattle.std.specs.Int.{◌∣◌, IsGcd, int_min, int_max}
use Rattle.arrayvec.specs.ArrayVec.{ArrayVec}
use lib.Signed.{◌<ℤ◌, ◌≤ℤ◌}
use Rattle.ival_core.specs.declared.value.Progression.{Progression}
use Rattle.ival_core.specs.declared.value.Shape.{Shape}
use Rattle.ival_core.specs.declared.value.Shape.TheVariants.{Few, Many}
use Rattle.ival_core.specs.declared.value.Ival.{Ival}
use Rattle.ival_core.specs.Sets.{apart, Among, AllAbove, AllNumbers, IsAscending, IsNumber, IsSmallSet, IsLongRun, IsValid, IsLeast, Has, Steps, HoldsNine, steps_from}
use Rattle.ival_core.specs.Hulls.{Spans, IsHull}
use Rattle.ival_core.specs.Ivals.{Holds, Includes, IsJoin}
use Rattle.ival_core.specs.Joined.{gcd_from, gcd, hull, point, hull_of, inserted, few_or_hull, with_number, with_numbers, joined}
use Rattle.ival_core.proofs.Counting.{AllAbove-among, AllAbove-from_among}
use Rattle.ival_core.proofs.Canonical.{same_shape}
use Rattle.ival_core.proofs.Distances.{apart-swap}
use Rattle.ival_core.proofs.Hulls.{Spans-run, Spans-same, Spans-one, Spans-hull, Spans-long, Spans-IsLeast, IsHull-from}
use Rattle.ival_core.proofs.Insertion.{AllNumbers-among, AllNumbers-from_among, IsLeast-exact, IsLeast-same, IsLeast-more, Holds-number}
use Rattle.ival_core.proofs.Joins.{run_long, run_least}
use Rattle.ival_core.proofs.Runs.{Steps-number, Steps-nine, length-steps_from, steps_from-ascending}
use Rattle.ival_core.proofs.Orders.{lt_true, lt_false}
use borrow.Author.Tests.{eqb-true}

gcd_from_is : (fuel a b : ℕ) → b ≤ fuel → IsGcd a b (gcd_from fuel a b)
unfolding gcd_from
gcd_from_is zero a b h = IsGcd-from_zero a b (omega arith)
gcd_from_is (suc fuel) a b h = by_rest fuel a b (b == 0) (λ e. eqb-true b 0 e) (λ e. gcd_from_is fuel b (a % b) (smaller fuel a b h e))
  where
    smaller : (fuel a b : ℕ) → b ≤ suc fuel → (b == 0) ≡ false → a % b ≤ fuel
    smaller fuel a b h e = let k : 0 < b = grind (arith, nat_tests) in let m : a % b < b = mod_below a b k in omega arith

    by_rest : (fuel a b : ℕ) (t : Bool) → (t ≡ true → b ≡ 0) → (t ≡ false → IsGcd b (a % b) (gcd_from fuel b (a % b))) → IsGcd a b (cond t a (gcd_from fuel b (a % b)))
    by_rest fuel a b true z f = IsGcd-from_zero a b (z refl)
    by_rest fuel a b false z f = IsGcd-from_mod a b (gcd_from fuel b (a % b)) (f refl)

pub gcd_is : (a b : ℕ) → IsGcd a b (gcd a b)
unfolding gcd
gcd_is a b = gcd_from_is b a b (omega arith)

pub hull_is : (p q : Progression) → IsHull p q (hull p q)
unfolding hull apart
hull_is p q =
    IsHull-from p q (int_min p.low q.low) (int_max p.high q.high) (gcd p.stride q.stride) (unsigned_abs (q.low -ℤ p.low)) (gcd (gcd p.stride q.stride) (unsigned_abs (q.low -ℤ p.low)))
    refl refl (gcd_is p.stride q.stride) (turned p.low q.low) (gcd_is (gcd p.stride q.stride) (unsigned_abs (q.low -ℤ p.low)))
  where
    turned : (a b : ℤ) → unsigned_abs (b -ℤ a) ≡ unsigned_abs (a -ℤ b)
    turned a b = omega (arith, ints)

hull_of-spans : (x : ℤ) (xs : List ℤ) → Spans (Among (x ∷ xs)) (hull_of x xs)
unfolding hull_of
hull_of-spans x [] = Spans-same (λ k. k ≡ x) (Among (x ∷ [])) (point x) (λ n e. inl e) (λ n m. elim m [ inl e ↦ e | inr k ↦ absurd k ]) (Spans-one x)
hull_of-spans x (y ∷ ys) =
    Spans-same (λ n. (n ≡ x) ⊎ Among (y ∷ ys) n) (Among (x ∷ y ∷ ys)) (hull (point x) (hull_of y ys)) (λ n m. m) (λ n m. m)
    (Spans-hull (λ n. n ≡ x) (Among (y ∷ ys)) (point x) (hull_of y ys) (hull (point x) (hull_of y ys)) (Spans-one x) (hull_of-spans y ys) (hull_is (point x) (hull_of y ys)))

-- ys is xs with x, in order
pub record With (x : ℤ) (xs ys : List ℤ) : Type 0 where
  pub ascending : IsAscending ys
  pub longer : length ys ≤ suc (length xs)
  pub has : (n : ℤ) → Among ys n → Among xs n ⊎ (n ≡ x)
  pub keeps : (n : ℤ) → Among xs n ⊎ (n ≡ x) → Among ys n

front : (x y : ℤ) (ys : List ℤ) → IsAscending (y ∷ ys) → x <ℤ y → With x (y ∷ ys) (x ∷ y ∷ ys)
front x y ys a l = record {
  ascending = (AllAbove-from_among x (y ∷ ys) (λ n m. elim m [ inl e ↦ subst (λ z. x <ℤ z) (sym e) l | inr k ↦ further x y n l (AllAbove-among y ys a.0 n k) ]), a);
  longer = omega arith;
  has = λ n m. elim m [ inl e ↦ inr e | inr k ↦ inl k ];
  keeps = λ n m. elim m [ inl k ↦ inr k | inr e ↦ inl e ];
}
  where
    further : (x y n : ℤ) → x <ℤ y → y <ℤ n → x <ℤ n
    further x y n l k = omega (arith, ints)

there : (x y : ℤ) (ys : List ℤ) → IsAscending (y ∷ ys) → x ≡ y → With x (y ∷ ys) (y ∷ ys)
there x y ys a e = record {
  ascending = a;
  longer = omega arith;
  has = λ n m. inl m;
  keeps = λ n m. elim m [ inl k ↦ k | inr i ↦ inl (i ∙ e) ];
}

later : (x y : ℤ) (ys zs : List ℤ) → IsAscending (y ∷ ys) → y <ℤ x → With x ys zs → With x (y ∷ ys) (y ∷ zs)
later x y ys zs a l w = record {
  ascending = (AllAbove-from_among y zs (λ n m. elim (w.has n m) [ inl k ↦ AllAbove-among y ys a.0 n k | inr e ↦ subst (λ z. y <ℤ z) (sym e) l ]), w.ascending);
  longer = (let k = w.longer in omega arith);
  has = λ n m. elim m [ inl e ↦ inl (inl e) | inr k ↦ elim (w.has n k) [ inl i ↦ inl (inr i) | inr e ↦ inr e ] ];
  keeps = λ n m. elim m [ inl k ↦ elim k [ inl e ↦ inl e | inr i ↦ inr (w.keeps n (inl i)) ] | inr e ↦ inr (w.keeps n (inr e)) ];
}

pub inserted-with : (x : ℤ) (xs : List ℤ) → IsAscending xs → With x xs (inserted x xs)
unfolding inserted
inserted-with x [] a = record {
  ascending = (tt, tt);
  longer = omega arith;
  has = λ n m. elim m [ inl e ↦ inr e | inr k ↦ inl k ];
  keeps = λ n m. elim m [ inl k ↦ inr k | inr e ↦ inl e ];
}
inserted-with x (y ∷ ys) a =
    by_place x y ys a (int_lt x y) (int_lt y x) (λ e. lt_true x y e) (λ e. lt_true y x e) (λ e f. same x y (lt_false x y e) (lt_false y x f)) (inserted-with x ys a.1)
  where
    same : (x y : ℤ) → y ≤ℤ x → x ≤ℤ y → x ≡ y
    same x y h k = omega (arith, ints)

    by_place : (x y : ℤ) (ys : List ℤ) → IsAscending (y ∷ ys) → (s t : Bool) → (s ≡ true → x <ℤ y) → (t ≡ true → y <ℤ x) → (s ≡ false → t ≡ false → x ≡ y) → With x ys (inserted x ys) →
        With x (y ∷ ys) (cond s (x ∷ y ∷ ys) (cond t (y ∷ inserted x ys) (y ∷ ys)))
    by_place x y ys a true t f g h w = front x y ys a (f refl)
    by_place x y ys a false true f g h w = later x y ys (inserted x ys) a (g refl) w
    by_place x y ys a false false f g h w = there x y ys a (h refl refl)

-- nine numbers
record Nine (xs : List ℤ) : Type 0 where
  nine : length xs ≡ 9
  ascending : IsAscending xs

-- nine numbers with P have Q too
pub HoldsNine-map : (P Q : ℤ → Type 0) → ((n : ℤ) → P n → Q n) → HoldsNine P → HoldsNine Q
HoldsNine-map P Q f h = record { some = h.some; nine = h.nine; ascending = h.ascending; held = λ n m. f n (h.held n m) }

pub Steps-hold_nine : (p : Progression) → IsLongRun p → HoldsNine (Steps p)
Steps-hold_nine p l = record {
  some = steps_from p.low p.stride 9;
  nine = length-steps_from p.low p.stride 9;
  ascending = steps_from-ascending p.low p.stride 9 l.moves;
  held = Steps-nine p l;
}

-- s is the least set round the numbers with P, and has no others unless they are more than 8
pub record Makes (P : ℤ → Type 0) (s : Shape) : Type 0 where
  pub valid : IsValid s
  pub least : IsLeast P s
  pub sharp : ((n : ℤ) → Has s n → P n) ⊎ HoldsNine P

few_or_hull-makes : (xs : List ℤ) → IsAscending xs → AllNumbers xs → length xs ≤ 9 → Makes (Among xs) (few_or_hull xs)
unfolding few_or_hull
few_or_hull-makes [] a b h = record {
  valid = record { small = omega arith; ascending = tt; numbers = tt };
  least = IsLeast-exact (Among []) (record { items = [] }) (λ n m. m) (λ n m. m);
  sharp = inl (λ n m. m);
}
few_or_hull-makes (x ∷ xs) a b h = by_length x xs a b h (nat_lt 8 (length (x ∷ xs))) (λ e. long x xs h e) (λ e. short x xs e)
  where
    long : (x : ℤ) (xs : List ℤ) → length (x ∷ xs) ≤ 9 → nat_lt 8 (length (x ∷ xs)) ≡ true → length (x ∷ xs) ≡ 9
    long x xs h e = grind (arith, nat_tests)

    short : (x : ℤ) (xs : List ℤ) → nat_lt 8 (length (x ∷ xs)) ≡ false → length (x ∷ xs) ≤ 8
    short x xs e = grind (arith, nat_tests)

    by_length : (x : ℤ) (xs : List ℤ) → IsAscending (x ∷ xs) → AllNumbers (x ∷ xs) → length (x ∷ xs) ≤ 9 → (t : Bool) →
        (t ≡ true → length (x ∷ xs) ≡ 9) → (t ≡ false → length (x ∷ xs) ≤ 8) →
        Makes (Among (x ∷ xs)) (cond t (Many (hull_of x xs)) (Few (record { items = x ∷ xs })))
    by_length x xs a b h true f g =
        let nine : HoldsNine (Among (x ∷ xs)) = record { some = x ∷ xs; nine = f refl; ascending = a; held = λ n m. m } in
        record {
          valid = Spans-long (Among (x ∷ xs)) (hull_of x xs) nine (λ n m. AllNumbers-among (x ∷ xs) b n m) (hull_of-spans x xs);
          least = Spans-IsLeast (Among (x ∷ xs)) (hull_of x xs) nine (hull_of-spans x xs);
          sharp = inr nine;
        }
    by_length x xs a b h false f g = record {
      valid = record { small = g refl; ascending = a; numbers = b };
      least = IsLeast-exact (Among (x ∷ xs)) (record { items = x ∷ xs }) (λ n m. m) (λ n m. m);
      sharp = inl (λ n m. m);
    }

pub with_number-makes : (s : Shape) (x : ℤ) → IsValid s → IsNumber x → Makes (λ n. Has s n ⊎ (n ≡ x)) (with_number s x)
unfolding with_number
with_number-makes (Few v) x a b =
    let w = inserted-with x v.items a.ascending in
    let m = few_or_hull-makes (inserted x v.items) w.ascending
    (AllNumbers-from_among (inserted x v.items) (λ n k. elim (w.has n k) [ inl i ↦ AllNumbers-among v.items a.numbers n i | inr e ↦ subst IsNumber (sym e) b ]))
    (let l = w.longer in let k = a.small in omega arith) in
    record {
      valid = m.valid;
      least = IsLeast-same (Among (inserted x v.items)) (λ n. Among v.items n ⊎ (n ≡ x)) (few_or_hull (inserted x v.items)) w.has w.keeps m.least;
      sharp = elim m.sharp [
        | inl f ↦ inl (λ n k. w.has n (f n k))
        | inr h ↦ inr (HoldsNine-map (Among (inserted x v.items)) (λ n. Among v.items n ⊎ (n ≡ x)) w.has h)
      ];
    }
with_number-makes (Many p) x a b = record {
  valid = run_long (λ n. n ≡ x) p (point x) (hull p (point x)) a (λ n e. subst IsNumber (sym e) b) (Spans-one x) (hull_is p (point x));
  least = run_least (λ n. n ≡ x) p (point x) (hull p (point x)) a (Spans-one x) (hull_is p (point x));
  sharp = inr (HoldsNine-map (Steps p) (λ n. Steps p n ⊎ (n ≡ x)) (λ n m. inl m) (Steps-hold_nine p a));
}

pub with_numbers-makes : (s : Shape) (xs : List ℤ) → IsValid s → AllNumbers xs → Makes (λ n. Has s n ⊎ Among xs n) (with_numbers s xs)
unfolding with_numbers
with_numbers-makes s [] a b = record {
  valid = a;
  least = record { holds = λ n m. elim m [ inl h ↦ h | inr k ↦ absurd k ]; least = λ u valid all n h. all n (inl h) };
  sharp = inl (λ n h. inl h);
}
with_numbers-makes s (x ∷ xs) a b =
    let m = with_number-makes s x a b.0 in
    let k = with_numbers-makes (with_number s x) xs m.valid b.1 in
    record {
      valid = k.valid;
      least = record {
        holds = λ n h. elim h [
          | inl i ↦ k.least.holds n (inl (m.least.holds n (inl i)))
          | inr j ↦ elim j [ inl e ↦ k.least.holds n (inl (m.least.holds n (inr e))) | inr i ↦ k.least.holds n (inr i) ]
        ];
        least = λ u valid all n h. k.least.least u valid
            (λ j q. elim q [
              | inl w ↦ m.least.least u valid (λ i p. elim p [ inl y ↦ all i (inl y) | inr e ↦ all i (inr (inl e)) ]) j w
              | inr i ↦ all j (inr (inr i))
            ]) n h;
      };
      sharp = elim m.sharp [
        | inr h ↦ inr (HoldsNine-map (λ n. Has s n ⊎ (n ≡ x)) (λ n. Has s n ⊎ Among (x ∷ xs) n) (λ n q. elim q [ inl y ↦ inl y | inr e ↦ inr (inl e) ]) h)
        | inl f ↦
            let onto : (n : ℤ) → Has (with_number s x) n ⊎ Among xs n → Has s n ⊎ Among (x ∷ xs) n =
            λ n q. elim q [ inl w ↦ elim (f n w) [ inl y ↦ inl y | inr e ↦ inr (inl e) ] | inr i ↦ inr (inr i) ] in
            elim k.sharp [
              | inl g ↦ inl (λ n h. onto n (g n h))
              | inr h ↦ inr (HoldsNine-map (λ n. Has (with_number s x) n ⊎ Among xs n) (λ n. Has s n ⊎ Among (x ∷ xs) n) onto h)
            ]
      ];
    }

pub joined-makes : (s t : Shape) → IsValid s → IsValid t → Makes (λ n. Has s n ⊎ Has t n) (joined s t)
unfolding joined
joined-makes (Few v) (Few w) a b = with_numbers-makes (Few v) w.items a b.numbers
joined-makes (Many p) (Few w) a b = with_numbers-makes (Many p) w.items a b.numbers
joined-makes (Few v) (Many q) a b =
    let m = with_numbers-makes (Many q) v.items b a.numbers in
    record {
      valid = m.valid;
      least = IsLeast-same (λ n. Steps q n ⊎ Among v.items n) (λ n. Among v.items n ⊎ Steps q n) (with_numbers (Many q) v.items) (λ n h. turn n h) (λ n h. back n h) m.least;
      sharp = inr (HoldsNine-map (Steps q) (λ n. Among v.items n ⊎ Steps q n) (λ n h. inr h) (Steps-hold_nine q b));
    }
  where
    turn : (n : ℤ) → Steps q n ⊎ Among v.items n → Among v.items n ⊎ Steps q n
    turn n (inl i) = inr i
    turn n (inr i) = inl i

    back : (n : ℤ) → Among v.items n ⊎ Steps q n → Steps q n ⊎ Among v.items n
    back n (inl i) = inr i
    back n (inr i) = inl i
joined-makes (Many p) (Many q) a b = record {
  valid = run_long (Steps q) p q (hull p q) a (λ n m. Holds-number_of q b n m) (Spans-run q b) (hull_is p q);
  least = run_least (Steps q) p q (hull p q) a (Spans-run q b) (hull_is p q);
  sharp = inr (HoldsNine-map (Steps p) (λ n. Steps p n ⊎ Steps q n) (λ n h. inl h) (Steps-hold_nine p a));
}
  where
    Holds-number_of : (q : Progression) → IsLongRun q → (n : ℤ) → Steps q n → IsNumber n
    Holds-number_of q b n m = Steps-number q n b m

-- what `join` answers is this shape
pub joined_is : (a b v : Ival) → IsJoin a b v → v.shape ≡ joined a.shape b.shape
joined_is a b v j =
    let m = joined-makes a.shape b.shape a.valid b.valid in
    let w : Ival = record { shape = joined a.shape b.shape; valid = m.valid } in
    same_shape v.shape (joined a.shape b.shape) v.valid m.valid
    (λ n h. j.least w (λ k i. m.least.holds k (inl i)) (λ k i. m.least.holds k (inr i)) n h)
    (λ n h. m.least.least v.shape v.valid (λ k i. elim i [ inl x ↦ j.first k x | inr y ↦ j.second k y ]) n h)
