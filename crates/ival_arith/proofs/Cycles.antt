-- What equal steps leave modulo m.
use Rattle.std.proofs.Common.{◌≡◌, ◌⊎◌, ℕ, zero, suc, ◌+◌, ◌-◌, ◌*◌, ◌%◌, ◌<◌, ◌≤◌, ◌^◌, Bool, true, false, cond, ℤ, pos, List, [], ◌∷◌, refl, sym, subst, ap, ◌∙◌, inl, inr, arith}
use Rattle.std.specs.Prelude.{◌&&◌, ◌||◌, int_le, nat_lt}
use Rattle.std.specs.Int.{◌∣◌}
use Rattle.std.proofs.lemmas.Int.{ints}
use Rattle.std.proofs.lemmas.Bool.{cases_lt, ltb-true, ltb-false}
use Rattle.std.proofs.lemmas.Nat.{mod_below, mul-le}
use Rattle.std.proofs.lemmas.Nat.Gcd.{mod-eq-zero_of_dvd, le_of_dvd}
use Rattle.std.proofs.Math.Nat.{mod-eq_of_lt, mod-add-mod, add-mod, mod-mod, mod-mod_of_dvd, eq-zero_of_zero-dvd, le_of_mul-le-mul_right, dvd_trans, dvd-mul_left}
use lib.Signed.{◌<ℤ◌, ◌≤ℤ◌}
use Rattle.ival_core.specs.Sets.{Among, AllNumbers, IsNumber, Steps, HoldsNine}
use Rattle.ival_core.specs.Ranges.{ranged, IsRange, InRange}
use Rattle.ival_core.specs.Joined.{gcd}
use Rattle.ival_core.proofs.Joined.{Makes, gcd_is}
use Rattle.ival_core.proofs.Orders.{le_true, le_false}
use Rattle.ival_arith.specs.Pieces.{gathered, run, is_among, residues_from, cycle}
use Rattle.ival_arith.proofs.Fits.{Fits, Makes-fits, Makes-same, Exactly-makes, Fits-nine, gathered-makes}
use Rattle.ival_arith.proofs.Parts.{run-exactly, ranged-exactly, from_place, at_place}
use Rattle.ival_arith.proofs.Distinct.{nine_values}

-- the residue after j steps
abbrev pub after : ℕ → ℕ → ℕ → ℕ → ℕ
after m first stride j = (first + j * stride) % m

-- n is left after at most `more` steps
pub record Left (m first stride more : ℕ) (n : ℤ) : Type 0 where
  pub steps : ℕ
  pub within : steps ≤ more
  pub is : n ≡ pos (after m first stride steps)

-- equal residues stay equal when the same is added
pub mod-add_same : (m a b c : ℕ) → a % m ≡ b % m → (a + c) % m ≡ (b + c) % m
mod-add_same m a b c e = sym (mod-add-mod a m c) ∙ ap (λ x. (x + c) % m) e ∙ mod-add-mod b m c

after_more : (m first stride i j t : ℕ) → after m first stride i ≡ after m first stride j → after m first stride (i + t) ≡ after m first stride (j + t)
after_more m first stride i j t e =
    ap (λ x. x % m) (split first stride i t) ∙ mod-add_same m (first + i * stride) (first + j * stride) (t * stride) e ∙ ap (λ x. x % m) (sym (split first stride j t))
  where
    split : (first stride i t : ℕ) → first + (i + t) * stride ≡ first + i * stride + t * stride
    split first stride i t = omega arith

pub is_among-true : (xs : List ℤ) (n : ℤ) → is_among xs n ≡ true → Among xs n
is_among-true [] n e = cc
is_among-true (x ∷ xs) n e = by_tests n x xs (int_le n x) (int_le x n) (λ h. le_true n x h) (λ h. le_true x n h) (λ h. is_among-true xs n h) e
  where
    by_tests : (n x : ℤ) (xs : List ℤ) (s t : Bool) → (s ≡ true → n ≤ℤ x) → (t ≡ true → x ≤ℤ n) → (is_among xs n ≡ true → Among xs n) → ((s && t) || is_among xs n) ≡ true → (n ≡ x) ⊎ Among xs n
    by_tests n x xs true true f g r e = inl (equal n x (f refl) (g refl))
      where
        equal : (n x : ℤ) → n ≤ℤ x → x ≤ℤ n → n ≡ x
        equal n x h k = omega (arith, ints)
    by_tests n x xs true false f g r e = inr (r e)
    by_tests n x xs false t f g r e = inr (r e)

pub is_among-false : (xs : List ℤ) (n : ℤ) → is_among xs n ≡ false → Among xs n → ⊥
is_among-false [] n e m = absurd m
is_among-false (x ∷ xs) n e m = by_tests n x xs (int_le n x) (int_le x n) (λ h. le_false n x h) (λ h. le_false x n h) (λ h k. is_among-false xs n h k) e m
  where
    by_tests : (n x : ℤ) (xs : List ℤ) (s t : Bool) → (s ≡ false → x <ℤ n) → (t ≡ false → n <ℤ x) → (is_among xs n ≡ false → Among xs n → ⊥) → ((s && t) || is_among xs n) ≡ false → (n ≡ x) ⊎ Among xs n → ⊥
    by_tests n x xs true true f g r e m = cc
    by_tests n x xs true false f g r e (inl q) = let l = g refl in omega (arith, ints)
    by_tests n x xs true false f g r e (inr q) = r e q
    by_tests n x xs false t f g r e (inl q) = let l = f refl in omega (arith, ints)
    by_tests n x xs false t f g r e (inr q) = r e q

among-left : (m first stride count : ℕ) (n : ℤ) → Among (residues_from m first stride count) n → (k : ℕ) × (k < count) × (n ≡ pos (after m first stride k))
unfolding residues_from
among-left m first stride zero n h = absurd h
among-left m first stride (suc count) n (inl e) = (0, omega arith, e ∙ ap (λ x. pos (x % m)) (none first stride))
  where
    none : (first stride : ℕ) → first ≡ first + 0 * stride
    none first stride = omega arith
among-left m first stride (suc count) n (inr h) =
    let r = among-left m (first + stride) stride count n h in
    (suc r.0, omega (arith, r.1), r.2 ∙ ap (λ x. pos (x % m)) (later first stride r.0))
  where
    later : (first stride k : ℕ) → first + stride + k * stride ≡ first + suc k * stride
    later first stride k = omega arith

left-among : (m first stride count k : ℕ) (n : ℤ) → k < count → n ≡ pos (after m first stride k) → Among (residues_from m first stride count) n
unfolding residues_from
left-among m first stride zero k n h e = absurd (omega arith)
left-among m first stride (suc count) zero n h e = inl (e ∙ ap (λ x. pos (x % m)) (none first stride))
  where
    none : (first stride : ℕ) → first + 0 * stride ≡ first
    none first stride = omega arith
left-among m first stride (suc count) (suc k) n h e =
    inr (left-among m (first + stride) stride count k n (omega arith) (e ∙ ap (λ x. pos (x % m)) (later first stride k)))
  where
    later : (first stride k : ℕ) → first + suc k * stride ≡ first + stride + k * stride
    later first stride k = omega arith

-- where the residue after 8 steps comes among the first, each residue does
repeats : (fuel m first stride i j : ℕ) → j ≤ fuel → i < 8 → after m first stride 8 ≡ after m first stride i → (k : ℕ) × (k < 8) × (after m first stride j ≡ after m first stride k)
repeats zero m first stride i j h l e = (j, omega arith, refl)
repeats (suc fuel) m first stride i j h l e = elim (cases_lt j 8) [
  | inl b ↦ (j, b, refl)
  | inr b ↦
      let t : 8 + (j - 8) ≡ j = omega arith in
      let r = repeats fuel m first stride i (i + (j - 8)) (omega arith) l e in
      (r.0, r.1, ap (after m first stride) (sym t) ∙ after_more m first stride 8 i (j - 8) e ∙ r.2)
]

-- where it does not, the first nine are all different
differ : (m first stride : ℕ) → ((i : ℕ) → i < 8 → after m first stride 8 ≡ after m first stride i → ⊥) → (i j : ℕ) → suc i ≤ j → j ≤ 8 → after m first stride j ≡ after m first stride i → ⊥
differ m first stride h i j a b e =
    let s : j + (8 - j) ≡ 8 = omega arith in
    h (i + (8 - j)) (omega arith) (ap (after m first stride) (sym s) ∙ after_more m first stride j i (8 - j) e)

-- numbers that an `Ival` may hold
small_number : (m r : ℕ) → r < m → m ≤ 2 ^ 64 → IsNumber (pos r)
small_number m r h k = record { least = omega (arith, ints); greatest = omega (arith, ints) }

residues-numbers : (m first stride count : ℕ) → 0 < m → m ≤ 2 ^ 64 → AllNumbers (residues_from m first stride count)
unfolding residues_from
residues-numbers m first stride zero h k = tt
residues-numbers m first stride (suc count) h k = (small_number m (first % m) (mod_below first m h) k, residues-numbers m (first + stride) stride count h k)

-- the divisor of stride and m divides what one step changes
all_left : (m first stride more : ℕ) → 0 < m → (n : ℤ) → Left m first stride more n → InRange (pos 0) (pos (m - 1)) (pos (first % gcd stride m)) (pos (gcd stride m)) n
all_left m first stride more h n l =
    let g = gcd stride m in
    let d = gcd_is stride m in
    let b : after m first stride l.steps < m = mod_below (first + l.steps * stride) m h in
    let e : after m first stride l.steps % g ≡ first % g = by_divisor m first stride l.steps g d.0 d.1 in
    subst (InRange (pos 0) (pos (m - 1)) (pos (first % g)) (pos g)) (sym l.is)
    (record { above = omega (arith, ints); below = omega (arith, ints); leaves = ap pos e })
  where
    by_divisor : (m first stride j g : ℕ) → g ∣ stride → g ∣ m → (first + j * stride) % m % g ≡ first % g
    by_divisor m first stride j g s k =
        mod-mod_of_dvd g (first + j * stride) k
        ∙ add-mod first (j * stride) g
        ∙ ap (λ x. (first % g + x) % g) (mod-eq-zero_of_dvd g (dvd_trans g s (dvd-mul_left stride j)))
        ∙ ap (λ x. x % g) (omega arith)
        ∙ mod-mod first g

pub positive : (g m : ℕ) → 0 < m → g ∣ m → 0 < g
positive zero m h d = let z : m ≡ 0 = eq-zero_of_zero-dvd d in absurd (omega arith)
positive (suc g) m h d = omega arith

pub range_may : (m first stride : ℕ) → 0 < m → m ≤ 2 ^ 64 → IsRange (pos 0) (pos (m - 1)) (pos (first % gcd stride m)) (pos (gcd stride m))
range_may m first stride h k =
    let d = gcd_is stride m in
    let p : 0 < gcd stride m = positive (gcd stride m) m h d.1 in
    let b : first % gcd stride m < gcd stride m = mod_below first (gcd stride m) p in
    let l : gcd stride m ≤ m = le_of_dvd h d.1 in
    record {
      order = omega (arith, ints);
      low = record { least = omega (arith, ints); greatest = omega (arith, ints) };
      high = record { least = omega (arith, ints); greatest = omega (arith, ints) };
      remains = record { least = omega (arith, ints); greatest = omega (arith, ints) };
      rest = omega (arith, ints);
      below = omega (arith, ints);
    }

-- the numbers left are few
few_left : (m first stride more i : ℕ) → 0 < m → m ≤ 2 ^ 64 → 8 ≤ more → i < 8 → after m first stride 8 ≡ after m first stride i →
    Makes (Left m first stride more) (gathered (residues_from m first stride 8))
few_left m first stride more i h k l b e =
    Makes-same (Among (residues_from m first stride 8)) (Left m first stride more) (gathered (residues_from m first stride 8))
    (λ n a. let r = among-left m first stride 8 n a in record { steps = r.0; within = omega (arith, r.1); is = r.2 })
    (λ n q. let r = repeats q.steps m first stride i q.steps (omega arith) b e in left-among m first stride 8 r.0 n r.1 (q.is ∙ ap pos r.2))
    (gathered-makes (residues_from m first stride 8) (residues-numbers m first stride 8 h k))

-- they cross no multiple of m
none_crossed : (m first stride more : ℕ) → 0 < stride → m ≤ 2 ^ 64 → first + more * stride < m → Makes (Left m first stride more) (run (pos first) (pos (first + more * stride)) stride)
none_crossed m first stride more s k l =
    let x = run-exactly (pos first) (pos (first + more * stride)) stride (small_number m first (omega arith) k) (small_number m (first + more * stride) l k) (omega (arith, ints)) s in
    Exactly-makes (Left m first stride more) (run (pos first) (pos (first + more * stride)) stride) (record {
      valid = x.valid;
      holds = λ n q. x.holds n (onto n q);
      only = λ n a. back n (x.only n a);
    })
  where
    own : (j : ℕ) → j ≤ more → after m first stride j ≡ first + j * stride
    own j h = let p : j * stride ≤ more * stride = mul-le j stride more stride h (omega arith) in mod-eq_of_lt (omega arith)

    onto : (n : ℤ) → Left m first stride more n → Steps (record { low = pos first; high = pos (first + more * stride); stride = stride }) n
    onto n q =
        let p : q.steps * stride ≤ more * stride = mul-le q.steps stride more stride q.within (omega arith) in
        let e : n ≡ pos (first + q.steps * stride) = q.is ∙ ap pos (own q.steps q.within) in
        from_place (record { low = pos first; high = pos (first + more * stride); stride = stride }) n q.steps e (subst (λ z. z ≤ℤ pos (first + more * stride)) (sym e) (omega (arith, ints)))

    back : (n : ℤ) → Steps (record { low = pos first; high = pos (first + more * stride); stride = stride }) n → Left m first stride more n
    back n a =
        let q = at_place (record { low = pos first; high = pos (first + more * stride); stride = stride }) n a in
        let b : q.0 * stride ≤ more * stride = below n q.0 q.1 a.below in
        let c : q.0 ≤ more = le_of_mul-le-mul_right b s in
        record { steps = q.0; within = c; is = q.1 ∙ ap pos (sym (own q.0 c)) }
      where
        below : (n : ℤ) (j : ℕ) → n ≡ pos (first + j * stride) → n ≤ℤ pos (first + more * stride) → j * stride ≤ more * stride
        below n j e h = omega (arith, ints)

nine_left : (m first stride more : ℕ) → 8 ≤ more → ((i : ℕ) → i < 8 → after m first stride 8 ≡ after m first stride i → ⊥) → HoldsNine (Left m first stride more)
nine_left m first stride more l h =
    nine_values (Left m first stride more) (λ j. pos (after m first stride j)) (λ i j a b e. differ m first stride h i j a b (unpos (after m first stride j) (after m first stride i) e))
    (λ i b. record { steps = i; within = omega arith; is = refl })
  where
    unpos : (a b : ℕ) → pos a ≡ pos b → a ≡ b
    unpos a b e = cc

pub cycle-fits : (m first stride more : ℕ) → 0 < m → m ≤ 2 ^ 64 → 8 ≤ more → Fits (Left m first stride more) (cycle m first stride more)
unfolding cycle
cycle-fits m first stride more h k l =
    by_tests m first stride more h k l (is_among (residues_from m first stride 8) (pos ((first + 8 * stride) % m))) (nat_lt (first + more * stride) m)
    (λ e. among-left m first stride 8 (pos ((first + 8 * stride) % m)) (is_among-true (residues_from m first stride 8) (pos ((first + 8 * stride) % m)) e))
    (λ e i b f. is_among-false (residues_from m first stride 8) (pos ((first + 8 * stride) % m)) e (left-among m first stride 8 i (pos ((first + 8 * stride) % m)) b (ap pos f)))
    (λ e. ltb-true (first + more * stride) m e)
  where
    unpos : (a b : ℕ) → pos a ≡ pos b → a ≡ b
    unpos a b e = cc

    moves : (m first stride : ℕ) → ((i : ℕ) → i < 8 → after m first stride 8 ≡ after m first stride i → ⊥) → 0 < stride
    moves m first zero g = absurd (g 0 (omega arith) (ap (λ x. (first + x) % m) (omega arith)))
    moves m first (suc stride) g = omega arith

    by_tests : (m first stride more : ℕ) → 0 < m → m ≤ 2 ^ 64 → 8 ≤ more → (s t : Bool) →
        (s ≡ true → (i : ℕ) × (i < 8) × (pos (after m first stride 8) ≡ pos (after m first stride i))) →
        (s ≡ false → (i : ℕ) → i < 8 → after m first stride 8 ≡ after m first stride i → ⊥) →
        (t ≡ true → first + more * stride < m) →
        Fits (Left m first stride more) (cond s (gathered (residues_from m first stride 8)) (cond t (run (pos first) (pos (first + more * stride)) stride) (ranged (pos 0) (pos (m - 1)) (pos (first % gcd stride m)) (pos (gcd stride m)))))
    by_tests m first stride more h k l true t f g r =
        let x = f refl in
        Makes-fits (Left m first stride more) (gathered (residues_from m first stride 8)) (few_left m first stride more x.0 h k l x.1 (unpos (after m first stride 8) (after m first stride x.0) x.2))
    by_tests m first stride more h k l false true f g r =
        Makes-fits (Left m first stride more) (run (pos first) (pos (first + more * stride)) stride) (none_crossed m first stride more (moves m first stride (g refl)) k (r refl))
    by_tests m first stride more h k l false false f g r =
        let x = ranged-exactly (pos 0) (pos (m - 1)) (pos (first % gcd stride m)) (pos (gcd stride m)) (range_may m first stride h k) in
        Fits-nine (Left m first stride more) (ranged (pos 0) (pos (m - 1)) (pos (first % gcd stride m)) (pos (gcd stride m))) x.valid
        (λ n q. x.holds n (all_left m first stride more h n q)) (nine_left m first stride more l (g refl))

-- a run that does not come back moves
pub cycle_moves : (m first stride : ℕ) → is_among (residues_from m first stride 8) (pos ((first + 8 * stride) % m)) ≡ false → 0 < stride
cycle_moves m first zero e =
    absurd (is_among-false (residues_from m first zero 8) (pos ((first + 8 * zero) % m)) e (left-among m first zero 8 0 (pos ((first + 8 * zero) % m)) (omega arith) (ap (λ x. pos ((first + x) % m)) (omega arith))))
cycle_moves m first (suc stride) e = omega arith

-- where no multiple of m is crossed, just the numbers that are left
pub cycle-makes : (m first stride more : ℕ) → 0 < m → m ≤ 2 ^ 64 → 8 ≤ more → first + more * stride < m → Makes (Left m first stride more) (cycle m first stride more)
unfolding cycle
cycle-makes m first stride more h k l b =
    by_tests m first stride more h k l b (is_among (residues_from m first stride 8) (pos ((first + 8 * stride) % m))) (nat_lt (first + more * stride) m)
    (λ e. among-left m first stride 8 (pos ((first + 8 * stride) % m)) (is_among-true (residues_from m first stride 8) (pos ((first + 8 * stride) % m)) e))
    (λ e. cycle_moves m first stride e)
    (λ e. ltb-false (first + more * stride) m e)
  where
    unpos : (a b : ℕ) → pos a ≡ pos b → a ≡ b
    unpos a b e = cc

    by_tests : (m first stride more : ℕ) → 0 < m → m ≤ 2 ^ 64 → 8 ≤ more → first + more * stride < m → (s t : Bool) →
        (s ≡ true → (i : ℕ) × (i < 8) × (pos (after m first stride 8) ≡ pos (after m first stride i))) →
        (s ≡ false → 0 < stride) → (t ≡ false → m ≤ first + more * stride) →
        Makes (Left m first stride more) (cond s (gathered (residues_from m first stride 8)) (cond t (run (pos first) (pos (first + more * stride)) stride) (ranged (pos 0) (pos (m - 1)) (pos (first % gcd stride m)) (pos (gcd stride m)))))
    by_tests m first stride more h k l b true t f g r =
        let x = f refl in few_left m first stride more x.0 h k l x.1 (unpos (after m first stride 8) (after m first stride x.0) x.2)
    by_tests m first stride more h k l b false true f g r = none_crossed m first stride more (g refl) k b
    by_tests m first stride more h k l b false false f g r = let x = r refl in absurd (omega arith)
