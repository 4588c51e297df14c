-- How the pieces are computed, one number after the other.
use Rattle.std.proofs.Common.{◌≡◌, ℕ, zero, suc, ◌+◌, ◌-◌, ◌*◌, ◌%◌, ◌<◌, ◌≤◌, ◌^◌, Bool, true, false, cond, ℤ, pos, List, [], ◌∷◌, length, drop, get_or, map, to_z, of_z, refl, sym, subst, ap, ◌∙◌, arith, drop-cons, add-one}
use Rattle.std.specs.Prelude.{◌&&◌, ◌||◌, int_le, ◌*ℤ◌, ◌-ℤ◌, neg_ℤ}
use Rattle.std.specs.Int.{w128, int_min, int_max, int_rem_euclid, IsGcd}
use Rattle.std.proofs.lemmas.Bool.{lt-ltb, le-ltb}
use Rattle.std.proofs.lemmas.List.{drop_all}
use Rattle.std.proofs.lemmas.Nat.Gcd.{same_from_IsGcd}
use Rattle.std.proofs.lemmas.Int.{ints, to_z-of_z, to_z_pos}
use Rattle.std.proofs.lemmas.Bool.Decides.{nat_tests}
use lib.Signed.{◌≤ℤ◌, ◌<ℤ◌}
use Rattle.ival_core.specs.declared.value.Shape.{Shape}
use Rattle.ival_core.specs.declared.value.Shape.TheVariants.{Few, Many}
use Rattle.arrayvec.specs.ArrayVec.{ArrayVec}
use Rattle.ival_arith.specs.declared.pieces.Change.{Change}
use Rattle.ival_core.specs.declared.value.Progression.{Progression}
use Rattle.ival_core.specs.Sets.{IsNumber, IsLongRun, IsValid, Has, Among, Steps}
use Rattle.ival_core.specs.Joined.{joined, with_number, with_numbers, gcd}
use Rattle.ival_core.specs.Ranges.{ranged, IsRange}
use Rattle.ival_core.proofs.Joined.{gcd_is}
use Rattle.ival_core.proofs.Orders.{true_lt, false_lt}
use Rattle.ival_core.proofs.Runs.{number_fits}
use Rattle.ival_arith.specs.Pieces.{none, gathered, run, residues_from, is_among, within, clipped, run_clipped, cycle, changed, run_changed, all_changed}

pub joined_one : (s : Shape) (n : ℤ) → joined s (Few (record { items = n ∷ [] })) ≡ with_number s n
unfolding joined with_numbers
joined_one s n = refl

pub with_one : (s : Shape) (x : ℤ) (xs : List ℤ) → with_numbers s (x ∷ xs) ≡ with_numbers (with_number s x) xs
unfolding with_numbers
with_one s x xs = refl

pub with_no : (s : Shape) → with_numbers s [] ≡ s
unfolding with_numbers
with_no s = refl

-- the numbers from place i on begin with the one at i
pub from_here : (f : ℤ → ℤ) (xs : List ℤ) (i : ℕ) (d : ℤ) → i < length xs → map f (drop i xs) ≡ f (get_or xs i d) ∷ map f (drop (i + 1) xs)
from_here f xs i d h = ap (map f) (drop-cons xs i d h) ∙ ap (λ k. f (get_or xs i d) ∷ map f (drop k xs)) (sym (add-one i))

pub step_with : (f : ℤ → ℤ) (xs : List ℤ) (i : ℕ) (d : ℤ) (s t u : Shape) → i < length xs → with_numbers s (map f (drop i xs)) ≡ u → t ≡ with_number s (f (get_or xs i d)) →
    with_numbers t (map f (drop (i + 1) xs)) ≡ u
step_with f xs i d s t u h e g =
    ap (λ x. with_numbers x (map f (drop (i + 1) xs))) g ∙ sym (with_one s (f (get_or xs i d)) (map f (drop (i + 1) xs))) ∙ ap (with_numbers s) (sym (from_here f xs i d h)) ∙ e

pub residues-step : (m first stride count : ℕ) → 0 < count → residues_from m first stride count ≡ pos (first % m) ∷ residues_from m (first + stride) stride (count - 1)
unfolding residues_from
residues-step m first stride zero h = absurd (omega arith)
residues-step m first stride (suc count) h = let e : suc count - 1 ≡ count = omega arith in ap (λ k. pos (first % m) ∷ residues_from m (first + stride) stride k) (sym e)

pub with_residues-step : (s t : Shape) (m first stride count : ℕ) → 0 < count → t ≡ with_numbers (with_number s (pos (first % m))) (residues_from m (first + stride) stride (count - 1)) →
    t ≡ with_numbers s (residues_from m first stride count)
with_residues-step s t m first stride count h e =
    e ∙ sym (with_one s (pos (first % m)) (residues_from m (first + stride) stride (count - 1))) ∙ ap (with_numbers s) (sym (residues-step m first stride count h))

pub with_residues-none : (s t : Shape) (m first stride count : ℕ) → count ≡ 0 → t ≡ s → t ≡ with_numbers s (residues_from m first stride count)
unfolding residues_from with_numbers
with_residues-none s t m first stride count h e = e ∙ ap (λ k. with_numbers s (residues_from m first stride k)) (sym h)

pub same_run : (a b c d : ℤ) (s t : ℕ) → a ≡ c → b ≡ d → s ≡ t → run a b s ≡ run c d t
same_run a b c d s t e f g = ap (λ x. run x b s) e ∙ ap (λ x. run c x s) f ∙ ap (run c d) g

pub product_is : (a : ℤ) (k : ℕ) → IsNumber a → k < 2 ^ 64 → IsNumber (a *ℤ pos k) → to_z w128 (of_z w128 (to_z w128 (of_z w128 a) *ℤ to_z w128 k)) ≡ a *ℤ pos k
product_is a k h l g =
    rw (to_z-of_z w128 a (number_fits a h), to_z_pos w128 k (omega arith)) (to_z-of_z w128 (a *ℤ pos k) (number_fits (a *ℤ pos k) g))

pub negated_is : (a : ℤ) → IsNumber a → to_z w128 (of_z w128 (pos 0 -ℤ to_z w128 (of_z w128 a))) ≡ neg_ℤ a
negated_is a h = let f = number_fits a h in let b = h.least in let c = h.greatest in omega (arith, ints)

pub run_clipped-none : (lo hi : ℤ) (p : Progression) → int_min hi p.high <ℤ int_max lo p.low → run_clipped lo hi p ≡ none
unfolding run_clipped
run_clipped-none lo hi p h = rw (true_lt (int_min hi p.high) (int_max lo p.low) h) refl

pub run_clipped-some : (lo hi : ℤ) (p : Progression) → int_max lo p.low ≤ℤ int_min hi p.high →
    run_clipped lo hi p ≡ ranged (int_max lo p.low) (int_min hi p.high) (int_rem_euclid p.low (pos p.stride)) (pos p.stride)
unfolding run_clipped
run_clipped-some lo hi p h = rw (false_lt (int_min hi p.high) (int_max lo p.low) h) refl

pub cycle-few : (m first stride more : ℕ) → is_among (residues_from m first stride 8) (pos ((first + 8 * stride) % m)) ≡ true → cycle m first stride more ≡ gathered (residues_from m first stride 8)
unfolding cycle
cycle-few m first stride more e = rw e refl

pub cycle-run : (m first stride more : ℕ) → is_among (residues_from m first stride 8) (pos ((first + 8 * stride) % m)) ≡ false → first + more * stride < m →
    cycle m first stride more ≡ run (pos first) (pos (first + more * stride)) stride
unfolding cycle
cycle-run m first stride more e h = rw (e, lt-ltb (first + more * stride) m h) refl

pub cycle-all : (m first stride more step : ℕ) → is_among (residues_from m first stride 8) (pos ((first + 8 * stride) % m)) ≡ false → m ≤ first + more * stride → IsGcd stride m step →
    cycle m first stride more ≡ ranged (pos 0) (pos (m - 1)) (pos (first % step)) (pos step)
unfolding cycle
cycle-all m first stride more step e h g =
    rw (e, le-ltb (first + more * stride) m h, same_from_IsGcd stride m (gcd stride m) step (gcd_is stride m) g) refl

pub gathered_start : (s : Shape) (xs : List ℤ) → s ≡ Few (record { items = [] }) → with_numbers s xs ≡ gathered xs
unfolding gathered
gathered_start s xs e = ap (λ x. with_numbers x xs) e

pub with_end : (f : ℤ → ℤ) (xs : List ℤ) (i : ℕ) (s u : Shape) → length xs ≤ i → with_numbers s (map f (drop i xs)) ≡ u → s ≡ u
with_end f xs i s u h e = sym (with_no s) ∙ ap (λ ys. with_numbers s (map f ys)) (sym (drop_all i xs h)) ∙ e

pub is_left-none : (m first stride count : ℕ) (n : ℤ) → count ≡ 0 → false ≡ is_among (residues_from m first stride count) n
unfolding residues_from
is_left-none m first stride count n e = sym (ap (λ k. is_among (residues_from m first stride k) n) e)

here : (n m : ℕ) → n ≡ m → (int_le (pos n) (pos m) && int_le (pos m) (pos n)) ≡ true
here n m e = grind (arith, nat_tests)

elsewhere : (n m : ℕ) → (n ≡ m → ⊥) → (int_le (pos n) (pos m) && int_le (pos m) (pos n)) ≡ false
elsewhere n m e = grind (arith, nat_tests)

pub is_left-here : (m first stride count n : ℕ) → 0 < count → n ≡ first % m → true ≡ is_among (residues_from m first stride count) (pos n)
is_left-here m first stride count n h e =
    sym (ap (λ xs. is_among xs (pos n)) (residues-step m first stride count h) ∙ ap (λ b. b || is_among (residues_from m (first + stride) stride (count - 1)) (pos n)) (here n (first % m) e))

pub is_left-later : (m first stride count n : ℕ) → 0 < count → (n ≡ first % m → ⊥) →
    is_among (residues_from m (first + stride) stride (count - 1)) (pos n) ≡ is_among (residues_from m first stride count) (pos n)
is_left-later m first stride count n h e =
    sym (ap (λ xs. is_among xs (pos n)) (residues-step m first stride count h) ∙ ap (λ b. b || is_among (residues_from m (first + stride) stride (count - 1)) (pos n)) (elsewhere n (first % m) e))

pub range_same : (a b c d p q r s : ℤ) → a ≡ p → b ≡ q → c ≡ r → d ≡ s → IsRange p q r s → IsRange a b c d
range_same a b c d p q r s e f g h i =
    subst (λ x. IsRange x b c d) (sym e) (subst (λ x. IsRange p x c d) (sym f) (subst (λ x. IsRange p q x d) (sym g) (subst (IsRange p q r) (sym h) i)))

pub ranged_same : (a b c d p q r s : ℤ) → a ≡ p → b ≡ q → c ≡ r → d ≡ s → ranged a b c d ≡ ranged p q r s
ranged_same a b c d p q r s e f g h = ap (λ x. ranged x b c d) e ∙ ap (λ x. ranged p x c d) f ∙ ap (λ x. ranged p q x d) g ∙ ap (ranged p q r) h

pub one_less : (m : ℕ) → 0 < m → m ≤ 2 ^ 64 → to_z w128 (of_z w128 (to_z w128 m -ℤ pos 1)) ≡ pos (m - 1)
one_less m h k = omega (arith, ints)

pub within-step : (lo hi : ℤ) (xs : List ℤ) (i : ℕ) (d : ℤ) → i < length xs →
    within lo hi (drop i xs) ≡ cond (int_le lo (get_or xs i d) && int_le (get_or xs i d) hi) (get_or xs i d ∷ within lo hi (drop (i + 1) xs)) (within lo hi (drop (i + 1) xs))
within-step lo hi xs i d h = ap (within lo hi) (drop-cons xs i d h) ∙ ap (λ k. within lo hi (get_or xs i d ∷ drop k xs)) (sym (add-one i))

pub step_within : (lo hi : ℤ) (xs : List ℤ) (i : ℕ) (d : ℤ) (s t u : Shape) → i < length xs → with_numbers s (within lo hi (drop i xs)) ≡ u →
    t ≡ cond (int_le lo (get_or xs i d) && int_le (get_or xs i d) hi) (with_number s (get_or xs i d)) s → with_numbers t (within lo hi (drop (i + 1) xs)) ≡ u
step_within lo hi xs i d s t u h e f =
    ap (λ x. with_numbers x (within lo hi (drop (i + 1) xs))) f
    ∙ chosen (int_le lo (get_or xs i d) && int_le (get_or xs i d) hi) s (get_or xs i d) (within lo hi (drop (i + 1) xs))
    ∙ ap (with_numbers s) (sym (within-step lo hi xs i d h)) ∙ e
  where
    chosen : (b : Bool) (s : Shape) (x : ℤ) (more : List ℤ) → with_numbers (cond b (with_number s x) s) more ≡ with_numbers s (cond b (x ∷ more) more)
    chosen true s x more = sym (with_one s x more)
    chosen false s x more = refl

pub within_end : (lo hi : ℤ) (xs : List ℤ) (i : ℕ) (s u : Shape) → length xs ≤ i → with_numbers s (within lo hi (drop i xs)) ≡ u → s ≡ u
within_end lo hi xs i s u h e = sym (with_no s) ∙ ap (λ ys. with_numbers s (within lo hi ys)) (sym (drop_all i xs h)) ∙ e

pub stride_is : (p : Progression) → IsLongRun p → to_z w128 p.stride ≡ pos p.stride
stride_is p l =
    let a = l.first.least in let b = l.last.greatest in let c = l.long in
    to_z_pos w128 p.stride (omega (arith, ints))

-- ---- by the two shapes

pub changed_few : (change : Change) (set at r : Shape) (v : ArrayVec ℤ) (xs : List ℤ) → at ≡ set → at ≡ Few v → xs ≡ v.items → r ≡ gathered (map (changed change) xs) → r ≡ all_changed change set
unfolding all_changed
changed_few change set at r v xs e f g h = h ∙ ap (λ ys. gathered (map (changed change) ys)) g ∙ ap (all_changed change) (sym f ∙ e)

pub changed_run : (change : Change) (set at r : Shape) (p : Progression) → at ≡ set → at ≡ Many p → r ≡ run_changed change p → r ≡ all_changed change set
unfolding all_changed
changed_run change set at r p e f h = h ∙ ap (all_changed change) (sym f ∙ e)

pub clipped_few : (lo hi : ℤ) (set at r : Shape) (v : ArrayVec ℤ) (xs : List ℤ) → at ≡ set → at ≡ Few v → xs ≡ v.items → r ≡ gathered (within lo hi xs) → r ≡ clipped lo hi set
unfolding clipped
clipped_few lo hi set at r v xs e f g h = h ∙ ap (λ ys. gathered (within lo hi ys)) g ∙ ap (clipped lo hi) (sym f ∙ e)

pub clipped_run : (lo hi : ℤ) (set at r : Shape) (p : Progression) → at ≡ set → at ≡ Many p → r ≡ run_clipped lo hi p → r ≡ clipped lo hi set
unfolding clipped
clipped_run lo hi set at r p e f h = h ∙ ap (clipped lo hi) (sym f ∙ e)

pub has_few : (P : ℤ → Type 0) (set at : Shape) (v : ArrayVec ℤ) (xs : List ℤ) → at ≡ set → at ≡ Few v → xs ≡ v.items → ((n : ℤ) → Has set n → P n) → (n : ℤ) → Among xs n → P n
has_few P set at v xs e f g h n m = h n (subst (λ s. Has s n) e (subst (λ s. Has s n) (sym f) (subst (λ ys. Among ys n) g m)))

pub run_of : (set at : Shape) (p : Progression) → at ≡ set → at ≡ Many p → set ≡ Many p
run_of set at p e f = sym e ∙ f

pub has_run : (set at : Shape) (p : Progression) → at ≡ set → at ≡ Many p → (n : ℤ) → Steps p n → Has set n
has_run set at p e f n s = subst (λ t. Has t n) e (subst (λ t. Has t n) (sym f) s)

pub valid_run : (set at : Shape) (p : Progression) → at ≡ set → at ≡ Many p → IsValid set → IsLongRun p
valid_run set at p e f v = subst IsValid f (subst IsValid (sym e) v)
