-- What the pieces hold.
use Rattle.std.proofs.Common.{◌≡◌, ◌⊎◌, ℕ, suc, ◌*◌, ◌/◌, ◌<◌, ◌≤◌, Bool, true, false, cond, ℤ, pos, negsuc, ◌+ℤ◌, ◌-ℤ◌, List, [], ◌∷◌, length, map, refl, sym, subst, ap, ◌∙◌, inl, inr, arith}
use Rattle.std.specs.Prelude.{neg_ℤ, ◌*ℤ◌, ◌&&◌, int_le, int_lt, unsigned_abs}
use Rattle.std.specs.Int.{◌∣◌, int_min, int_max, int_rem_euclid}
use Rattle.std.proofs.lemmas.Int.{ints, by_lt_z, clamps}
use Rattle.std.proofs.lemmas.Bool.{cases_lt}
use Rattle.std.proofs.Math.Nat.{div-mul_cancel, mul_assoc, mul-pos}
use Rattle.std.proofs.lemmas.Nat.Gcd.{dvd_of_mod-eq-zero}
use Rattle.c_base.proofs.Products.{add-mul}
use lib.Signed.{◌<ℤ◌, ◌≤ℤ◌}
use Rattle.ival_core.specs.declared.value.Progression.{Progression}
use Rattle.ival_core.specs.declared.value.Shape.{Shape}
use Rattle.ival_core.specs.declared.value.Shape.TheVariants.{Few, Many}
use Rattle.ival_core.specs.Sets.{apart, Among, AllNumbers, IsNumber, IsLongRun, IsValid, Has, Steps}
use Rattle.ival_core.specs.Ranges.{run_shape, ranged, IsRange, InRange, first_from}
use Rattle.ival_core.proofs.Distances.{apart_is, meets_on, meets_back}
use Rattle.ival_core.proofs.Insertion.{AllNumbers-among, AllNumbers-from_among}
use Rattle.ival_core.proofs.Joined.{Makes}
use Rattle.ival_core.proofs.Remainders.{range_numbers, range_none, ranged-none, ranged-run, first_is, leaves_same, same_leaves, leaving}
use Rattle.ival_core.proofs.Runs.{Steps-from_at, Steps-low, Steps-high}
use Rattle.ival_core.proofs.RunShapes.{run_shape-has, IsNumber-between, steps_from-small, run_from-long, run_shape-few, run_shape-many, last_number}
use Rattle.ival_core.proofs.Orders.{lt_true, lt_false, le_true, le_false}
use Rattle.ival_arith.specs.declared.pieces.Change.{Change}
use Rattle.ival_arith.specs.declared.pieces.Change.TheVariants.{Plus, Negative, Times}
use Rattle.ival_arith.specs.Pieces.{none, gathered, run, CanChange, changed, run_changed, all_changed, within, run_clipped, clipped}
use Rattle.ival_arith.proofs.Fits.{Exactly, Exactly-same, gathered-exactly, Makes-same, none-exactly, gathered-makes}

-- n is f of a number with P
pub record Image (P : ℤ → Type 0) (f : ℤ → ℤ) (n : ℤ) : Type 0 where
  pub from : ℤ
  pub has : P from
  pub is : n ≡ f from

pub run_shape-valid : (first : ℤ) (stride more : ℕ) → IsNumber first → IsNumber (first +ℤ pos (more * stride)) → 0 < stride → IsValid (run_shape first stride more)
run_shape-valid first stride more a b m = elim (cases_lt more 8) [
  | inl l ↦ subst IsValid (sym (run_shape-few first stride more l)) (steps_from-small first stride more a b m l)
  | inr l ↦ subst IsValid (sym (run_shape-many first stride more l)) (run_from-long first stride more a b m l)
]

pub run-exactly : (first high : ℤ) (stride : ℕ) → IsNumber first → IsNumber high → first ≤ℤ high → 0 < stride →
    Exactly (Steps (record { low = first; high = high; stride = stride })) (run first high stride)
run-exactly first high stride a b h m = record {
  valid = run_shape-valid first stride (apart first high / stride) a (last_number first high stride (apart first high / stride) a b h m refl) m;
  holds = λ n s. (run_shape-has first high stride h m n).1 s;
  only = λ n s. (run_shape-has first high stride h m n).0 s;
}

pub ranged-exactly : (lo hi rem modulus : ℤ) → IsRange lo hi rem modulus → Exactly (InRange lo hi rem modulus) (ranged lo hi rem modulus)
ranged-exactly lo hi rem modulus r = by_lt_z hi (first_from lo rem modulus)
    (λ l. subst (Exactly (InRange lo hi rem modulus)) (sym (ranged-none lo hi rem modulus (first_from lo rem modulus) refl l))
    (record { valid = none-exactly.valid; holds = λ n i. absurd (range_none lo hi rem modulus (first_from lo rem modulus) r refl l n i); only = λ n h. absurd h }))
    (λ l. subst (Exactly (InRange lo hi rem modulus)) (sym (ranged-run lo hi rem modulus (first_from lo rem modulus) refl l))
    (let x = run-exactly (first_from lo rem modulus) hi (unsigned_abs modulus) (first_number lo hi rem modulus r l) r.high l (moves rem modulus r.rest r.below) in
    record {
      valid = x.valid;
      holds = λ n i. x.holds n ((range_numbers lo hi rem modulus (first_from lo rem modulus) r refl n).1 i);
      only = λ n h. (range_numbers lo hi rem modulus (first_from lo rem modulus) r refl n).0 (x.only n h);
    }))
  where
    moves : (rem modulus : ℤ) → pos 0 ≤ℤ rem → rem <ℤ modulus → 0 < unsigned_abs modulus
    moves rem modulus h k = omega (arith, ints)

    first_number : (lo hi rem modulus : ℤ) → IsRange lo hi rem modulus → first_from lo rem modulus ≤ℤ hi → IsNumber (first_from lo rem modulus)
    first_number lo hi (pos r) (pos m) h l =
        let b : r < m = (let b = h.below in omega (arith, ints)) in
        let f = first_is lo r m b in
        IsNumber-between lo hi (first_from lo (pos r) (pos m)) h.low h.high f.above l
    first_number lo hi (negsuc r) modulus h l = let a = h.rest in absurd (omega (arith, ints))
    first_number lo hi (pos r) (negsuc m) h l = let a = h.rest in let b = h.below in absurd (omega (arith, ints))

-- ---- numbers from lo to hi

pub record Between (P : ℤ → Type 0) (lo hi n : ℤ) : Type 0 where
  pub has : P n
  pub above : lo ≤ℤ n
  pub below : n ≤ℤ hi

within-among : (lo hi : ℤ) (xs : List ℤ) (n : ℤ) → Among (within lo hi xs) n → Between (Among xs) lo hi n
within-among lo hi [] n m = absurd m
within-among lo hi (x ∷ xs) n m = by_tests lo hi x xs n (int_le lo x) (int_le x hi) (λ e. le_true lo x e) (λ e. le_true x hi e) (λ k. within-among lo hi xs n k) m
  where
    by_tests : (lo hi x : ℤ) (xs : List ℤ) (n : ℤ) (s t : Bool) → (s ≡ true → lo ≤ℤ x) → (t ≡ true → x ≤ℤ hi) → (Among (within lo hi xs) n → Between (Among xs) lo hi n) →
        Among (cond (s && t) (x ∷ within lo hi xs) (within lo hi xs)) n → Between (Among (x ∷ xs)) lo hi n
    by_tests lo hi x xs n true true f g r (inl e) =
        record { has = inl e; above = subst (λ z. lo ≤ℤ z) (sym e) (f refl); below = subst (λ z. z ≤ℤ hi) (sym e) (g refl) }
    by_tests lo hi x xs n true true f g r (inr m) = let k = r m in record { has = inr k.has; above = k.above; below = k.below }
    by_tests lo hi x xs n true false f g r m = let k = r m in record { has = inr k.has; above = k.above; below = k.below }
    by_tests lo hi x xs n false t f g r m = let k = r m in record { has = inr k.has; above = k.above; below = k.below }

among-within : (lo hi : ℤ) (xs : List ℤ) (n : ℤ) → Between (Among xs) lo hi n → Among (within lo hi xs) n
among-within lo hi [] n b = absurd b.has
among-within lo hi (x ∷ xs) n b = by_tests lo hi x xs n (int_le lo x) (int_le x hi) (λ e. le_false lo x e) (λ e. le_false x hi e) (λ k. among-within lo hi xs n k) b
  where
    out : (lo hi x n : ℤ) → (x <ℤ lo) ⊎ (hi <ℤ x) → n ≡ x → lo ≤ℤ n → n ≤ℤ hi → ⊥
    out lo hi x n (inl l) e a b = omega (arith, ints)
    out lo hi x n (inr l) e a b = omega (arith, ints)

    rest : (lo hi x : ℤ) (xs : List ℤ) (n : ℤ) → (x <ℤ lo) ⊎ (hi <ℤ x) → (Between (Among xs) lo hi n → Among (within lo hi xs) n) → Between (Among (x ∷ xs)) lo hi n → Among (within lo hi xs) n
    rest lo hi x xs n o r b = elim b.has [ inl e ↦ absurd (out lo hi x n o e b.above b.below) | inr m ↦ r (record { has = m; above = b.above; below = b.below }) ]

    by_tests : (lo hi x : ℤ) (xs : List ℤ) (n : ℤ) (s t : Bool) → (s ≡ false → x <ℤ lo) → (t ≡ false → hi <ℤ x) → (Between (Among xs) lo hi n → Among (within lo hi xs) n) →
        Between (Among (x ∷ xs)) lo hi n → Among (cond (s && t) (x ∷ within lo hi xs) (within lo hi xs)) n
    by_tests lo hi x xs n true true f g r b = elim b.has [ inl e ↦ inl e | inr m ↦ inr (r (record { has = m; above = b.above; below = b.below })) ]
    by_tests lo hi x xs n true false f g r b = rest lo hi x xs n (inr (g refl)) r b
    by_tests lo hi x xs n false t f g r b = rest lo hi x xs n (inl (f refl)) r b

pub clip_range : (lo hi : ℤ) (p : Progression) → IsLongRun p → IsNumber lo → IsNumber hi → int_max lo p.low ≤ℤ int_min hi p.high →
    IsRange (int_max lo p.low) (int_min hi p.high) (int_rem_euclid p.low (pos p.stride)) (pos p.stride)
clip_range lo hi p l a b h =
    let k = leaving p.low p.stride l.moves in
    let c = l.first.least in
    let d = l.first.greatest in
    let e = l.last.least in
    let f = l.last.greatest in
    let g = a.least in
    let i = a.greatest in
    let j = b.least in
    let m = b.greatest in
    let n = l.long in
    let o = l.moves in
    record {
      order = h;
      low = record { least = omega (arith, ints, clamps); greatest = omega (arith, ints, clamps) };
      high = record { least = omega (arith, ints, clamps); greatest = omega (arith, ints, clamps) };
      remains = record { least = omega (arith, ints); greatest = omega (arith, ints) };
      rest = subst (λ x. pos 0 ≤ℤ x) (sym k.is) (omega (arith, ints));
      below = subst (λ x. x <ℤ pos p.stride) (sym k.is) (let q = k.below in omega (arith, ints));
    }

pub run_clipped-exactly : (lo hi : ℤ) (p : Progression) → IsLongRun p → IsNumber lo → IsNumber hi → Exactly (Between (Steps p) lo hi) (run_clipped lo hi p)
unfolding run_clipped
run_clipped-exactly lo hi p l a b =
    by_test lo hi p l a b (int_lt (int_min hi p.high) (int_max lo p.low)) (λ e. lt_true (int_min hi p.high) (int_max lo p.low) e) (λ e. lt_false (int_min hi p.high) (int_max lo p.low) e)
  where
    empty : (lo hi : ℤ) (p : Progression) (n : ℤ) → int_min hi p.high <ℤ int_max lo p.low → Between (Steps p) lo hi n → ⊥
    empty lo hi p n h b = let c = b.has.above in let d = b.has.below in let e = b.above in let f = b.below in omega (arith, ints, clamps)

    onto : (lo hi : ℤ) (p : Progression) → IsLongRun p → (n : ℤ) → Between (Steps p) lo hi n → InRange (int_max lo p.low) (int_min hi p.high) (int_rem_euclid p.low (pos p.stride)) (pos p.stride) n
    onto lo hi p l n b =
        let c = b.has.above in let d = b.has.below in let e = b.above in let f = b.below in
        let k = leaving p.low p.stride l.moves in
        record {
          above = omega (arith, ints, clamps);
          below = omega (arith, ints, clamps);
          leaves = same_leaves p.low n p.stride k.rest l.moves k.below b.has.meets k.is ∙ sym k.is;
        }

    back : (lo hi : ℤ) (p : Progression) → IsLongRun p → (n : ℤ) → InRange (int_max lo p.low) (int_min hi p.high) (int_rem_euclid p.low (pos p.stride)) (pos p.stride) n → Between (Steps p) lo hi n
    back lo hi p l n i =
        let c : int_max lo p.low ≤ℤ n = i.above in
        let d : n ≤ℤ int_min hi p.high = i.below in
        let k = leaving p.low p.stride l.moves in
        record {
          has = record { above = omega (arith, ints, clamps); below = omega (arith, ints, clamps); meets = leaves_same p.low n p.stride k.rest l.moves k.is (i.leaves ∙ k.is) };
          above = omega (arith, ints, clamps);
          below = omega (arith, ints, clamps);
        }

    by_test : (lo hi : ℤ) (p : Progression) → IsLongRun p → IsNumber lo → IsNumber hi → (t : Bool) → (t ≡ true → int_min hi p.high <ℤ int_max lo p.low) → (t ≡ false → int_max lo p.low ≤ℤ int_min hi p.high) →
        Exactly (Between (Steps p) lo hi) (cond t none (ranged (int_max lo p.low) (int_min hi p.high) (int_rem_euclid p.low (pos p.stride)) (pos p.stride)))
    by_test lo hi p l a b true f g = record { valid = none-exactly.valid; holds = λ n h. absurd (empty lo hi p n (f refl) h); only = λ n h. absurd h }
    by_test lo hi p l a b false f g =
        let x = ranged-exactly (int_max lo p.low) (int_min hi p.high) (int_rem_euclid p.low (pos p.stride)) (pos p.stride) (clip_range lo hi p l a b (g refl)) in
        record { valid = x.valid; holds = λ n h. x.holds n (onto lo hi p l n h); only = λ n h. back lo hi p l n (x.only n h) }

within-short : (lo hi : ℤ) (xs : List ℤ) → length (within lo hi xs) ≤ length xs
within-short lo hi [] = omega arith
within-short lo hi (x ∷ xs) = by_test (int_le lo x && int_le x hi) x (within lo hi xs) (length xs) (within-short lo hi xs)
  where
    by_test : (t : Bool) (x : ℤ) (ys : List ℤ) (k : ℕ) → length ys ≤ k → length (cond t (x ∷ ys) ys) ≤ suc k
    by_test true x ys k h = omega arith
    by_test false x ys k h = omega arith

pub clipped-exactly : (lo hi : ℤ) (s : Shape) → IsValid s → IsNumber lo → IsNumber hi → Exactly (Between (Has s) lo hi) (clipped lo hi s)
unfolding clipped
clipped-exactly lo hi (Few v) l a b =
    Exactly-same (Among (within lo hi v.items)) (Between (Among v.items) lo hi) (gathered (within lo hi v.items)) (λ n m. within-among lo hi v.items n m) (λ n m. among-within lo hi v.items n m)
    (gathered-exactly (within lo hi v.items) (AllNumbers-from_among (within lo hi v.items) (λ n m. AllNumbers-among v.items l.numbers n (within-among lo hi v.items n m).has))
    (let k = within-short lo hi v.items in let j = l.small in omega arith))
clipped-exactly lo hi (Many p) l a b = run_clipped-exactly lo hi p l a b

-- ---- changed numbers

pub among-map : (f : ℤ → ℤ) (xs : List ℤ) (n : ℤ) → Image (Among xs) f n → Among (map f xs) n
among-map f [] n i = absurd i.has
among-map f (x ∷ xs) n i = elim i.has [
  | inl e ↦ inl (i.is ∙ ap f e)
  | inr m ↦ inr (among-map f xs n (record { from = i.from; has = m; is = i.is }))
]

pub map-among : (f : ℤ → ℤ) (xs : List ℤ) (n : ℤ) → Among (map f xs) n → Image (Among xs) f n
map-among f [] n m = absurd m
map-among f (x ∷ xs) n (inl e) = record { from = x; has = inl refl; is = e }
map-among f (x ∷ xs) n (inr m) = let k = map-among f xs n m in record { from = k.from; has = inr k.has; is = k.is }

pub map-numbers : (f : ℤ → ℤ) (xs : List ℤ) → ((n : ℤ) → Among xs n → IsNumber (f n)) → AllNumbers (map f xs)
map-numbers f xs h = AllNumbers-from_among (map f xs) (λ n m. let k = map-among f xs n m in subst IsNumber (sym k.is) (h k.from k.has))

pub mapped-makes : (f : ℤ → ℤ) (xs : List ℤ) → ((n : ℤ) → Among xs n → IsNumber (f n)) → Makes (Image (Among xs) f) (gathered (map f xs))
mapped-makes f xs h =
    Makes-same (Among (map f xs)) (Image (Among xs) f) (gathered (map f xs)) (λ n m. map-among f xs n m) (λ n i. among-map f xs n i)
    (gathered-makes (map f xs) (map-numbers f xs h))

apart-shift : (a n k : ℤ) → apart (a +ℤ k) n ≡ apart a (n -ℤ k)
unfolding apart
apart-shift a n k = omega (arith, ints)

apart-neg : (a n : ℤ) → apart (neg_ℤ a) n ≡ apart a (neg_ℤ n)
unfolding apart
apart-neg a n = omega (arith, ints)

pub ordered : (p : Progression) → IsLongRun p → p.low ≤ℤ p.high
ordered p l = let h = l.long in omega (arith, ints)

pub run_shifted-exactly : (k : ℤ) (p : Progression) → IsLongRun p → IsNumber (p.low +ℤ k) → IsNumber (p.high +ℤ k) → Exactly (Image (Steps p) (changed (Plus k))) (run_changed (Plus k) p)
run_shifted-exactly k p l a b =
    let o = ordered p l in
    let x = run-exactly (p.low +ℤ k) (p.high +ℤ k) p.stride a b (omega (arith, ints)) l.moves in
    record {
      valid = x.valid;
      holds = λ n i. x.holds n (onto n i);
      only = λ n h. back n (x.only n h);
    }
  where
    onto : (n : ℤ) → Image (Steps p) (λ z. z +ℤ k) n → Steps (record { low = p.low +ℤ k; high = p.high +ℤ k; stride = p.stride }) n
    onto n i =
        let e : n ≡ i.from +ℤ k = i.is in
        let c : p.low ≤ℤ i.from = i.has.above in
        let d : i.from ≤ℤ p.high = i.has.below in
        let f : i.from ≡ n -ℤ k = omega (arith, ints) in
        record {
          above = omega (arith, ints);
          below = omega (arith, ints);
          meets = subst (λ z. p.stride ∣ z) (sym (apart-shift p.low n k)) (subst (λ z. p.stride ∣ apart p.low z) f i.has.meets);
        }

    back : (n : ℤ) → Steps (record { low = p.low +ℤ k; high = p.high +ℤ k; stride = p.stride }) n → Image (Steps p) (λ z. z +ℤ k) n
    back n s =
        let c : (p.low +ℤ k) ≤ℤ n = s.above in
        let d : n ≤ℤ (p.high +ℤ k) = s.below in
        record {
          from = n -ℤ k;
          has = record { above = omega (arith, ints); below = omega (arith, ints); meets = subst (λ z. p.stride ∣ z) (apart-shift p.low n k) s.meets };
          is = omega (arith, ints);
        }

pub whole : (p : Progression) → IsLongRun p → p.stride ∣ apart p.low p.high
whole p l = dvd_of_mod-eq-zero p.stride l.meets

pub run_negated-exactly : (p : Progression) → IsLongRun p → Exactly (Image (Steps p) (changed Negative)) (run_changed Negative p)
run_negated-exactly p l =
    let o = ordered p l in
    let x = run-exactly (neg_ℤ p.high) (neg_ℤ p.low) p.stride (negated p.high l.last) (negated p.low l.first) (omega (arith, ints)) l.moves in
    record {
      valid = x.valid;
      holds = λ n i. x.holds n (onto n i);
      only = λ n h. back n (x.only n h);
    }
  where
    negated : (n : ℤ) → IsNumber n → IsNumber (neg_ℤ n)
    negated n h = let a = h.least in let b = h.greatest in record { least = omega (arith, ints); greatest = omega (arith, ints) }

    onto : (n : ℤ) → Image (Steps p) neg_ℤ n → Steps (record { low = neg_ℤ p.high; high = neg_ℤ p.low; stride = p.stride }) n
    onto n i =
        let e : n ≡ neg_ℤ i.from = i.is in
        let c : p.low ≤ℤ i.from = i.has.above in
        let d : i.from ≤ℤ p.high = i.has.below in
        let f : i.from ≡ neg_ℤ n = omega (arith, ints) in
        let m : p.stride ∣ apart p.high (neg_ℤ n) =
        meets_on p.stride p.high p.low (neg_ℤ n) (meets_back p.stride p.low p.high (whole p l)) (subst (λ z. p.stride ∣ apart p.low z) f i.has.meets) in
        record { above = omega (arith, ints); below = omega (arith, ints); meets = subst (λ z. p.stride ∣ z) (sym (apart-neg p.high n)) m }

    back : (n : ℤ) → Steps (record { low = neg_ℤ p.high; high = neg_ℤ p.low; stride = p.stride }) n → Image (Steps p) neg_ℤ n
    back n s =
        let c : neg_ℤ p.high ≤ℤ n = s.above in
        let d : n ≤ℤ neg_ℤ p.low = s.below in
        let m : p.stride ∣ apart p.high (neg_ℤ n) = subst (λ z. p.stride ∣ z) (apart-neg p.high n) s.meets in
        record {
          from = neg_ℤ n;
          has = record { above = omega (arith, ints); below = omega (arith, ints); meets = meets_on p.stride p.low p.high (neg_ℤ n) (whole p l) m };
          is = omega (arith, ints);
        }

-- a number of a progression is at a place of it
pub at_place : (p : Progression) (n : ℤ) → Steps p n → (j : ℕ) × (n ≡ p.low +ℤ pos (j * p.stride))
at_place p n s =
    let e : n ≡ p.low +ℤ pos (apart p.low n) = apart_is p.low n s.above in
    let k : apart p.low n / p.stride * p.stride ≡ apart p.low n = div-mul_cancel p.stride s.meets in
    (apart p.low n / p.stride, e ∙ ap (λ x. p.low +ℤ pos x) (sym k))

pub from_place : (p : Progression) (n : ℤ) (j : ℕ) → n ≡ p.low +ℤ pos (j * p.stride) → n ≤ℤ p.high → Steps p n
from_place p n j e h = Steps-from_at p j n e h

pub scaled_place : (low : ℤ) (j stride k : ℕ) → (low +ℤ pos (j * stride)) *ℤ pos k ≡ low *ℤ pos k +ℤ pos (j * (stride * k))
scaled_place low j stride k =
    add-mul low (pos (j * stride)) (pos k) ∙ ap (λ x. low *ℤ pos k +ℤ pos x) (mul_assoc j stride k)

pub scaled_order : (a b : ℤ) (k : ℕ) → a ≤ℤ b → (a *ℤ pos k) ≤ℤ (b *ℤ pos k)
scaled_order a b k h =
    let e : b ≡ a +ℤ pos (apart a b) = apart_is a b h in
    let f : b *ℤ pos k ≡ a *ℤ pos k +ℤ pos (apart a b * k) = ap (λ x. x *ℤ pos k) e ∙ add-mul a (pos (apart a b)) (pos k) in
    by_sum (a *ℤ pos k) (b *ℤ pos k) (apart a b * k) f
  where
    by_sum : (x y : ℤ) (d : ℕ) → y ≡ x +ℤ pos d → x ≤ℤ y
    by_sum x y d e = omega (arith, ints)

pub run_scaled-exactly : (k : ℕ) (p : Progression) → 0 < k → IsLongRun p → IsNumber (p.low *ℤ pos k) → IsNumber (p.high *ℤ pos k) → Exactly (Image (Steps p) (changed (Times k))) (run_changed (Times k) p)
run_scaled-exactly k p m l a b =
    let x = run-exactly (p.low *ℤ pos k) (p.high *ℤ pos k) (p.stride * k) a b (scaled_order p.low p.high k (ordered p l)) (positive p.stride k l.moves m) in
    record {
      valid = x.valid;
      holds = λ n i. x.holds n (onto n i);
      only = λ n h. back n (x.only n h);
    }
  where
    positive : (a b : ℕ) → 0 < a → 0 < b → 0 < a * b
    positive a b h k = mul-pos h k

    big : Progression
    big = record { low = p.low *ℤ pos k; high = p.high *ℤ pos k; stride = p.stride * k }

    onto : (n : ℤ) → Image (Steps p) (λ z. z *ℤ pos k) n → Steps (record { low = p.low *ℤ pos k; high = p.high *ℤ pos k; stride = p.stride * k }) n
    onto n i =
        let q = at_place p i.from i.has in
        from_place (record { low = p.low *ℤ pos k; high = p.high *ℤ pos k; stride = p.stride * k }) n q.0
        (i.is ∙ ap (λ z. z *ℤ pos k) q.1 ∙ scaled_place p.low q.0 p.stride k)
        (subst (λ z. z ≤ℤ (p.high *ℤ pos k)) (sym i.is) (scaled_order i.from p.high k i.has.below))

    back : (n : ℤ) → Steps (record { low = p.low *ℤ pos k; high = p.high *ℤ pos k; stride = p.stride * k }) n → Image (Steps p) (λ z. z *ℤ pos k) n
    back n s =
        let q = at_place (record { low = p.low *ℤ pos k; high = p.high *ℤ pos k; stride = p.stride * k }) n s in
        let e : n ≡ (p.low +ℤ pos (q.0 * p.stride)) *ℤ pos k = q.1 ∙ sym (scaled_place p.low q.0 p.stride k) in
        record {
          from = p.low +ℤ pos (q.0 * p.stride);
          has = from_place p (p.low +ℤ pos (q.0 * p.stride)) q.0 refl
              (unscaled_order (p.low +ℤ pos (q.0 * p.stride)) p.high k m (subst (λ z. z ≤ℤ (p.high *ℤ pos k)) e s.below));
          is = e;
        }
      where
        unscaled_order : (a b : ℤ) (k : ℕ) → 0 < k → (a *ℤ pos k) ≤ℤ (b *ℤ pos k) → a ≤ℤ b
        unscaled_order a b k m h = by_lt_z b a (λ l. absurd (over a b k m h l)) (λ l. l)
          where
            over : (a b : ℤ) (k : ℕ) → 0 < k → (a *ℤ pos k) ≤ℤ (b *ℤ pos k) → b <ℤ a → ⊥
            over a b k m h l =
                let c : (b +ℤ pos 1) ≤ℤ a = omega (arith, ints) in
                let d = scaled_order (b +ℤ pos 1) a k c in
                let e = add-mul b (pos 1) (pos k) in
                by_sum (a *ℤ pos k) (b *ℤ pos k) ((b +ℤ pos 1) *ℤ pos k) k m h d e
              where
                by_sum : (x y z : ℤ) (k : ℕ) → 0 < k → x ≤ℤ y → z ≤ℤ x → z ≡ y +ℤ pos (1 * k) → ⊥
                by_sum x y z k m h d e = omega (arith, ints)

length-map : (f : ℤ → ℤ) (xs : List ℤ) → length (map f xs) ≡ length xs
length-map f [] = refl
length-map f (x ∷ xs) = ap suc (length-map f xs)

pub all_changed-exactly : (change : Change) (s : Shape) → CanChange change → IsValid s → ((n : ℤ) → Has s n → IsNumber (changed change n)) → Exactly (Image (Has s) (changed change)) (all_changed change s)
unfolding all_changed
all_changed-exactly change (Few v) c l h =
    Exactly-same (Among (map (changed change) v.items)) (Image (Among v.items) (changed change)) (gathered (map (changed change) v.items)) (λ n m. map-among (changed change) v.items n m) (λ n i. among-map (changed change) v.items n i)
    (gathered-exactly (map (changed change) v.items) (map-numbers (changed change) v.items h) (let k = length-map (changed change) v.items in let j = l.small in omega arith))
all_changed-exactly (Plus k) (Many p) c l h = run_shifted-exactly k p l (h p.low (Steps-low p l)) (h p.high (Steps-high p l))
all_changed-exactly Negative (Many p) c l h = run_negated-exactly p l
all_changed-exactly (Times k) (Many p) c l h = run_scaled-exactly k p c l (h p.low (Steps-low p l)) (h p.high (Steps-high p l))
