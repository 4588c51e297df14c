-- How single numbers are divided by the numbers of a set.
use Rattle.std.proofs.Common.{◌≡◌, ℕ, zero, suc, ◌+◌, ◌-◌, ◌/◌, ◌<◌, ◌≤◌, ◌^◌, Bool, ℤ, pos, ◌+ℤ◌, ◌-ℤ◌, List, [], ◌∷◌, length, drop, get_or, drop-cons, add-one, Option, Some, None, to_z, of_z, FitsSigned, refl, sym, subst, ap, ◌∙◌, inl, inr, arith}
use Rattle.std.specs.Prelude.{neg_ℤ, unsigned_abs}
use Rattle.std.specs.Int.{w128}
use Rattle.std.proofs.lemmas.Int.{ints, to_z_pos, to_z-of_z}
use Rattle.std.proofs.lemmas.List.{drop_all}
use Rattle.ival_core.specs.declared.value.Progression.{Progression}
use Rattle.ival_core.specs.declared.value.Shape.{Shape}
use Rattle.ival_core.specs.declared.value.Shape.TheVariants.{Many}
use Rattle.ival_core.specs.Sets.{apart, steps_from, Among, IsNumber}
use Rattle.ival_arith.specs.declared.divisions.Part.{Part}
use Rattle.c_base.specs.Wide.{IsOperand}
use Rattle.ival_arith.specs.Pieces.{clipped}
use Rattle.ival_arith.specs.Values.{with_far, same_results, going_on, and_then, number_at, with_outcome, with_places, with_divisors, number_divided, numbers_divided}

pub first_step : (low : ℤ) (stride count : ℕ) → 0 < count → Among (steps_from low stride count) low
first_step low stride zero h = absurd (omega arith)
first_step low stride (suc c) h = inl refl

pub later_step : (low y : ℤ) (stride count : ℕ) → 0 < count → Among (steps_from (low +ℤ pos stride) stride (count - 1)) y → Among (steps_from low stride count) y
later_step low y stride zero h m = absurd (omega arith)
later_step low y stride (suc c) h m = let e : suc c - 1 ≡ c = omega arith in inr (subst (λ k. Among (steps_from (low +ℤ pos stride) stride k) y) e m)

-- ---- the places of a run

at_once : (left : ℕ) (part : Part) (signed : Bool) (width : ℕ) (x : ℤ) (p : Progression) (at : ℕ) (s : Shape) (k n : ℕ) → left ≡ k → at ≡ n → with_places left 0 part signed width x p at s ≡ with_places k 0 part signed width x p n s
at_once left part signed width x p at s k n e f = ap (λ i. with_places i 0 part signed width x p at s) e ∙ ap (λ i. with_places k 0 part signed width x p i s) f

skipping : (left skip : ℕ) (part : Part) (signed : Bool) (width : ℕ) (x : ℤ) (p : Progression) (at : ℕ) (s : Shape) → with_places left skip part signed width x p at s ≡ with_places (left - skip) 0 part signed width x p (at + skip) s
unfolding with_places
skipping zero skip part signed width x p at s = let e : 0 - skip ≡ 0 = omega arith in ap (λ k. with_places k 0 part signed width x p (at + skip) s) (sym e)
skipping (suc left) zero part signed width x p at s = at_once (suc left) part signed width x p at s (suc left - 0) (at + 0) (omega arith) (omega arith)
skipping (suc left) (suc skip) part signed width x p at s =
    let e : left - skip ≡ suc left - suc skip = omega arith in
    let f : suc at + skip ≡ at + suc skip = omega arith in
    skipping left skip part signed width x p (suc at) s ∙ ap (λ k. with_places k 0 part signed width x p (suc at + skip) s) e ∙ ap (λ k. with_places (suc left - suc skip) 0 part signed width x p k s) f

one_more : (left : ℕ) (part : Part) (signed : Bool) (width : ℕ) (x : ℤ) (p : Progression) (at : ℕ) (s : Shape) →
    with_places (suc left) 0 part signed width x p at s ≡ and_then (going_on left (with_outcome part signed width x (number_at p at) s)) (λ t. with_places left (same_results part x (number_at p at) p.stride) part signed width x p (suc at) t)
unfolding with_places
one_more left part signed width x p at s = refl

place_here : (part : Part) (signed : Bool) (width : ℕ) (x : ℤ) (p : Progression) (count at : ℕ) (s : Shape) (o : Option Shape) → at < count → o ≡ going_on (count - at - 1) (with_outcome part signed width x (number_at p at) s) →
    with_places (count - at) 0 part signed width x p at s ≡ and_then o (λ t. with_places (count - at - 1) (same_results part x (number_at p at) p.stride) part signed width x p (suc at) t)
place_here part signed width x p count at s o h e =
    let k : count - at ≡ suc (count - at - 1) = omega arith in
    ap (λ n. with_places n 0 part signed width x p at s) k ∙ one_more (count - at - 1) part signed width x p at s
    ∙ ap (λ r. and_then r (λ t. with_places (count - at - 1) (same_results part x (number_at p at) p.stride) part signed width x p (suc at) t)) (sym e)

pub place_none : (part : Part) (signed : Bool) (width : ℕ) (x : ℤ) (p : Progression) (count at : ℕ) (s : Shape) (u : Option Shape) → at < count → with_places (count - at) 0 part signed width x p at s ≡ u →
    None ≡ going_on (count - at - 1) (with_outcome part signed width x (number_at p at) s) → None ≡ u
place_none part signed width x p count at s u h e f = sym (place_here part signed width x p count at s None h f) ∙ e

pub place_some : (part : Part) (signed : Bool) (width : ℕ) (x : ℤ) (p : Progression) (count at skip : ℕ) (s t : Shape) (u : Option Shape) → at < count → with_places (count - at) 0 part signed width x p at s ≡ u →
    Some t ≡ going_on (count - at - 1) (with_outcome part signed width x (number_at p at) s) → skip ≡ same_results part x (number_at p at) p.stride → with_places (count - (at + (1 + skip))) 0 part signed width x p (at + (1 + skip)) t ≡ u
place_some part signed width x p count at skip s t u h e f g =
    let k : count - (at + (1 + skip)) ≡ count - at - 1 - skip = omega arith in
    let l : at + (1 + skip) ≡ suc at + skip = omega arith in
    ap (λ n. with_places n 0 part signed width x p (at + (1 + skip)) t) k ∙ ap (λ n. with_places (count - at - 1 - skip) 0 part signed width x p n t) l
    ∙ sym (skipping (count - at - 1) skip part signed width x p (suc at) t) ∙ ap (λ n. with_places (count - at - 1) n part signed width x p (suc at) t) g
    ∙ sym (place_here part signed width x p count at s (Some t) h f) ∙ e

pub places_done : (part : Part) (signed : Bool) (width : ℕ) (x : ℤ) (p : Progression) (count at : ℕ) (s : Shape) (u : Option Shape) → count ≤ at → with_places (count - at) 0 part signed width x p at s ≡ u → Some s ≡ u
unfolding with_places
places_done part signed width x p count at s u h e = let k : count - at ≡ 0 = omega arith in sym (ap (λ n. with_places n 0 part signed width x p at s) k) ∙ e

pub run_tried : (part : Part) (signed : Bool) (width : ℕ) (x : ℤ) (p : Progression) (count : ℕ) (s : Shape) (o : Option Shape) → count ≡ apart p.low p.high / p.stride + 1 → o ≡ with_places count 0 part signed width x p 0 s → o ≡ with_divisors part signed width x (Many p) s
unfolding with_divisors
run_tried part signed width x p count s o e f = f ∙ ap (λ n. with_places n 0 part signed width x p 0 s) e

-- ---- many numbers

numbers_more : (part : Part) (signed : Bool) (width : ℕ) (t s : Shape) (x : ℤ) (xs : List ℤ) → numbers_divided part signed width t (Some s) (x ∷ xs) ≡ numbers_divided part signed width t (number_divided part signed width t s x) xs
unfolding numbers_divided
numbers_more part signed width t s x xs = refl

numbers_end : (part : Part) (signed : Bool) (width : ℕ) (t : Shape) (o : Option Shape) → numbers_divided part signed width t o [] ≡ o
unfolding numbers_divided
numbers_end part signed width t o = refl

none_left : (part : Part) (signed : Bool) (width : ℕ) (t : Shape) (xs : List ℤ) → numbers_divided part signed width t None xs ≡ None
unfolding numbers_divided
none_left part signed width t [] = refl
none_left part signed width t (x ∷ xs) = refl

pub numbers_step : (part : Part) (signed : Bool) (width : ℕ) (t s : Shape) (xs : List ℤ) (i : ℕ) (d : ℤ) (o u : Option Shape) → i < length xs → numbers_divided part signed width t (Some s) (drop i xs) ≡ u →
    o ≡ number_divided part signed width t s (get_or xs i d) → numbers_divided part signed width t o (drop (i + 1) xs) ≡ u
numbers_step part signed width t s xs i d o u h e f =
    ap (λ r. numbers_divided part signed width t r (drop (i + 1) xs)) f ∙ sym (numbers_more part signed width t s (get_or xs i d) (drop (i + 1) xs))
    ∙ sym (ap (numbers_divided part signed width t (Some s)) (drop-cons xs i d h ∙ ap (λ k. get_or xs i d ∷ drop k xs) (sym (add-one i)))) ∙ e

pub numbers_none : (part : Part) (signed : Bool) (width : ℕ) (t s : Shape) (xs : List ℤ) (i : ℕ) (d : ℤ) (u : Option Shape) → i < length xs → numbers_divided part signed width t (Some s) (drop i xs) ≡ u →
    None ≡ number_divided part signed width t s (get_or xs i d) → None ≡ u
numbers_none part signed width t s xs i d u h e f = sym (none_left part signed width t (drop (i + 1) xs)) ∙ numbers_step part signed width t s xs i d None u h e f

pub numbers_done : (part : Part) (signed : Bool) (width : ℕ) (t s : Shape) (xs : List ℤ) (i : ℕ) (u : Option Shape) → length xs ≤ i → numbers_divided part signed width t (Some s) (drop i xs) ≡ u → Some s ≡ u
numbers_done part signed width t s xs i u h e = sym (numbers_end part signed width t (Some s)) ∙ ap (numbers_divided part signed width t (Some s)) (sym (drop_all i xs h)) ∙ e

-- ---- machine numbers

pub size_is : (k : ℕ) → k ≤ 2 ^ 120 → to_z w128 k ≡ pos k
size_is k h = to_z_pos w128 k (omega arith)

pub minus_is : (k : ℕ) → k ≤ 2 ^ 120 → to_z w128 (of_z w128 (pos 0 -ℤ to_z w128 k)) ≡ neg_ℤ (pos k)
minus_is k h = omega (arith, ints)

pub size_small : (x : ℤ) (k : ℕ) → IsNumber x → k ≡ unsigned_abs x → k ≤ 2 ^ 120
size_small x k h e = let a = h.least in let b = h.greatest in omega (arith, ints)

-- the next number of a run
pub next_fits : (low : ℤ) (stride : ℕ) → IsOperand low → stride ≤ 2 ^ 122 → FitsSigned w128 (low +ℤ to_z w128 stride)
next_fits low stride h k = let a = h.least in let b = h.greatest in subst (λ z. FitsSigned w128 (low +ℤ z)) (sym (to_z_pos w128 stride (omega arith))) (near low stride h k)
  where
    near : (low : ℤ) (stride : ℕ) → IsOperand low → stride ≤ 2 ^ 122 → FitsSigned w128 (low +ℤ pos stride)
    near low stride h k = let a = h.least in let b = h.greatest in omega (arith, ints)

pub next_is : (low : ℤ) (stride : ℕ) → IsOperand low → stride ≤ 2 ^ 122 → to_z w128 (of_z w128 (low +ℤ to_z w128 stride)) ≡ low +ℤ pos stride
next_is low stride h k = to_z-of_z w128 (low +ℤ to_z w128 stride) (next_fits low stride h k) ∙ ap (λ z. low +ℤ z) (to_z_pos w128 stride (omega arith))

pub number_divided_by : (part : Part) (signed : Bool) (width : ℕ) (t s near all : Shape) (x : ℤ) (o : Option Shape) → near ≡ clipped (neg_ℤ (pos (unsigned_abs x))) (pos (unsigned_abs x)) t → all ≡ with_far part x t s →
    o ≡ with_divisors part signed width x near all → o ≡ number_divided part signed width t s x
unfolding number_divided
number_divided_by part signed width t s near all x o f g h =
    h ∙ ap (λ u. with_divisors part signed width x u all) f ∙ ap (with_divisors part signed width x (clipped (neg_ℤ (pos (unsigned_abs x))) (pos (unsigned_abs x)) t)) g
