-- Quotients and remainders of single numbers by the numbers of a set.
use Rattle.std.proofs.Common.{◌≡◌, ◌⊎◌, ℕ, zero, suc, ◌+◌, ◌-◌, ◌*◌, ◌/◌, ◌<◌, ◌≤◌, Bool, true, false, cond, ℤ, pos, negsuc, ◌+ℤ◌, ◌-ℤ◌, List, [], ◌∷◌, Option, Some, None, Result, Ok, refl, sym, subst, ap, ◌∙◌, inl, inr, arith}
use Rattle.std.specs.Prelude.{neg_ℤ, ◌&&◌, ◌||◌, int_le, int_lt, unsigned_abs, max, int_div, nat_lt}
use Rattle.std.proofs.lemmas.Int.{ints, by_lt_z}
use Rattle.std.proofs.Math.Nat.{div-eq_of_lt, mod-eq_of_lt, div-mul_cancel, div-mul-le_self, le-div_iff_mul-le, div-lt_iff_lt-mul, div-eq_of_lt-le}
use Rattle.std.proofs.lemmas.Nat.{mul-le}
use lib.Signed.{◌<ℤ◌, ◌≤ℤ◌}
use Rattle.c_base.specs.declared.kind.Kind.{Kind}
use Rattle.c_base.specs.declared.operators.BinOp.{BinOp}
use Rattle.c_base.specs.Integers.{FitsBits, least_of, greatest_of}
use Rattle.c_base.specs.Operators.{operated, is_zero}
use Rattle.ival_core.specs.declared.value.Progression.{Progression}
use Rattle.ival_core.specs.declared.value.Shape.{Shape}
use Rattle.ival_core.specs.declared.value.Shape.TheVariants.{Few, Many}
use Rattle.ival_core.specs.Sets.{apart, steps_from, Among, AllNumbers, IsNumber, IsLongRun, IsValid, Has, Steps, HoldsNine}
use Rattle.ival_core.specs.Joined.{with_number, with_numbers}
use Rattle.ival_core.specs.Views.{bounds_of}
use Rattle.ival_core.proofs.Distances.{apart_is}
use Rattle.ival_core.proofs.Insertion.{AllNumbers-from_among}
use Rattle.ival_core.proofs.Joined.{with_numbers-makes, HoldsNine-map, Steps-hold_nine}
use Rattle.ival_core.proofs.Orders.{lt_true, lt_false, true_lt, false_le}
use Rattle.ival_core.proofs.RunShapes.{steps_to}
use Rattle.ival_core.proofs.Runs.{steps_from-at, steps_from-among, Steps-from_at, Steps-among, Steps-high}
use Rattle.ival_arith.specs.declared.divisions.Part.{Part}
use Rattle.ival_arith.specs.declared.divisions.Part.TheVariants.{Quotient, Remainder}
use Rattle.ival_arith.specs.Pieces.{none, clipped}
use Rattle.ival_arith.specs.Values.{kept, row, op_of, is_far, far_part, with_far, same_results, few_alone, going_on, and_then, number_at, with_outcome, with_places, with_divisors, number_divided, numbers_divided}
use Rattle.ival_arith.proofs.Bounding.{BoundsAre, bounds_are}
use Rattle.ival_arith.proofs.Codes.{with_one, with_no}
use Rattle.ival_arith.proofs.Dividing.{part_of, divided_is, is_divided}
use Rattle.ival_arith.proofs.Fits.{Fits, Fits-same, Exactly, Exactly-makes, Makes-fits, none-exactly}
use Rattle.ival_arith.proofs.Making.{Made, Typed, IsWidth, FitsEnds, kept_one, one_kept, row-among, among-row, ok_number}
use Rattle.ival_arith.proofs.Parts.{Between, clipped-exactly}
use Rattle.ival_arith.proofs.Words.{ends, fits_operand, operand_number}

-- a set with further numbers
Fits-with : (R : ℤ → Type 0) (s : Shape) (xs : List ℤ) → Fits R s → AllNumbers xs → Fits (λ n. R n ⊎ Among xs n) (with_numbers s xs)
Fits-with R s xs f a =
    let m = with_numbers-makes s xs f.valid a in
    record {
      valid = m.valid;
      holds = λ n h. elim h [ inl r ↦ m.least.holds n (inl (f.holds n r)) | inr k ↦ m.least.holds n (inr k) ];
      sharp = elim f.sharp [
        | inr h ↦ inr (HoldsNine-map R (λ n. R n ⊎ Among xs n) (λ n r. inl r) h)
        | inl g ↦
            let onto : (n : ℤ) → Has s n ⊎ Among xs n → R n ⊎ Among xs n = λ n h. elim h [ inl k ↦ inl (g n k) | inr k ↦ inr k ] in
            elim m.sharp [ inl k ↦ inl (λ n h. onto n (k n h)) | inr h ↦ inr (HoldsNine-map (λ n. Has s n ⊎ Among xs n) (λ n. R n ⊎ Among xs n) onto h) ]
      ];
    }

-- ---- divisors far from 0

far_is : (part : Part) (x y : ℤ) → unsigned_abs x < unsigned_abs y → part_of part x y ≡ far_part part x
far_is Quotient (pos a) (pos b) h = ap pos (div-eq_of_lt h)
far_is Quotient (pos a) (negsuc b) h = ap (λ k. neg_ℤ (pos k)) (div-eq_of_lt h)
far_is Quotient (negsuc a) (pos b) h = ap (λ k. neg_ℤ (pos k)) (div-eq_of_lt h)
far_is Quotient (negsuc a) (negsuc b) h = ap pos (div-eq_of_lt h)
far_is Remainder (pos a) y h = ap pos (mod-eq_of_lt h)
far_is Remainder (negsuc a) y h = ap (λ k. neg_ℤ (pos k)) (mod-eq_of_lt h)

not_zero : (x y : ℤ) → unsigned_abs x < unsigned_abs y → is_zero y ≡ false
not_zero x (pos zero) h = absurd (omega arith)
not_zero x (pos (suc n)) h = ap (λ t. t && int_le (pos 0) (pos (suc n))) (false_le (pos (suc n)) (pos 0) (omega (arith, ints)))
not_zero x (negsuc n) h = refl

far_result : (part : Part) (signed : Bool) (width : ℕ) (x y : ℤ) → IsWidth width → unsigned_abs x < unsigned_abs y → operated (op_of part) signed width x y ≡ Ok (far_part part x)
far_result part signed width x y w h =
    let k = ends signed width w.some w.room in
    is_divided part signed width x y (not_zero x y h) (subst (FitsEnds (least_of signed width) (greatest_of signed width)) (sym (far_is Quotient x y h)) (record { above = k.below; below = k.above })) ∙ ap Ok (far_is part x y h)

-- n is what x gives, divided by a number of t
pub record ByNumber (part : Part) (signed : Bool) (width : ℕ) (t : Shape) (x n : ℤ) : Type 0 where
  pub divisor : ℤ
  pub has : Has t divisor
  pub is : operated (op_of part) signed width x divisor ≡ Ok n

either : (x y : Bool) → (x || y) ≡ true → (x ≡ true) ⊎ (y ≡ true)
either true y e = inl refl
either false y e = inr e

some_or : (x y : Bool) → y ≡ true → (x || y) ≡ true
some_or true y e = refl
some_or false y e = e

-- a number of t is farther from 0 than x
record Far (t : Shape) (x : ℤ) : Type 0 where
  divisor : ℤ
  has : Has t divisor
  far : unsigned_abs x < unsigned_abs divisor

far_true : (t : Shape) (x : ℤ) (b : Option (ℤ × ℤ)) → BoundsAre t b → is_far x b ≡ true → Far t x
far_true t x None h e = cc
far_true t x (Some b) h e = elim (either (int_lt b.0 (neg_ℤ (pos (unsigned_abs x)))) (int_lt (pos (unsigned_abs x)) b.1) e) [
  | inl f ↦ let l = lt_true b.0 (neg_ℤ (pos (unsigned_abs x))) f in record { divisor = b.0; has = h.first; far = omega (arith, ints) }
  | inr f ↦ let l = lt_true (pos (unsigned_abs x)) b.1 f in record { divisor = b.1; has = h.last; far = omega (arith, ints) }
]

true_far : (t : Shape) (x y : ℤ) (b : Option (ℤ × ℤ)) → BoundsAre t b → Has t y → (y <ℤ neg_ℤ (pos (unsigned_abs x))) ⊎ (pos (unsigned_abs x) <ℤ y) → is_far x b ≡ true
true_far t x y None h i l = absurd (h y i)
true_far t x y (Some b) h i (inl l) = let k = h.above y i in ap (λ z. z || int_lt (pos (unsigned_abs x)) b.1) (true_lt b.0 (neg_ℤ (pos (unsigned_abs x))) (omega (arith, ints)))
true_far t x y (Some b) h i (inr l) = let k = h.below y i in some_or (int_lt b.0 (neg_ℤ (pos (unsigned_abs x)))) (int_lt (pos (unsigned_abs x)) b.1) (true_lt (pos (unsigned_abs x)) b.1 (omega (arith, ints)))

-- n comes from a divisor far from 0
record FromFar (part : Part) (t : Shape) (x n : ℤ) : Type 0 where
  test : is_far x (bounds_of t) ≡ true
  same : n ≡ far_part part x

far_number : (part : Part) (x : ℤ) → IsNumber x → IsNumber (far_part part x)
far_number Quotient x h = record { least = omega (arith, ints); greatest = omega (arith, ints) }
far_number Remainder x h = h

with_far-fits : (part : Part) (R : ℤ → Type 0) (s t : Shape) (x : ℤ) → IsNumber x → Fits R s → Fits (λ n. R n ⊎ FromFar part t x n) (with_far part x t s)
with_far-fits part R s t x i f = by_test (is_far x (bounds_of t)) refl
  where
    by_test : (b : Bool) → is_far x (bounds_of t) ≡ b → Fits (λ n. R n ⊎ FromFar part t x n) (cond b (with_number s (far_part part x)) s)
    by_test true e =
        subst (Fits (λ n. R n ⊎ FromFar part t x n)) (with_one s (far_part part x) [] ∙ with_no (with_number s (far_part part x)))
        (Fits-same (λ n. R n ⊎ Among (far_part part x ∷ []) n) (λ n. R n ⊎ FromFar part t x n) (with_numbers s (far_part part x ∷ []))
        (λ n h. elim h [ inl r ↦ inl r | inr m ↦ inr (record { test = e; same = elim m [ inl g ↦ g | inr g ↦ absurd g ] }) ])
        (λ n h. elim h [ inl r ↦ inl r | inr m ↦ inr (inl m.same) ])
        (Fits-with R s (far_part part x ∷ []) f (far_number part x i, tt)))
    by_test false e =
        Fits-same R (λ n. R n ⊎ FromFar part t x n) s (λ n r. inl r) (λ n h. elim h [ inl r ↦ r | inr m ↦ absurd (clash (sym m.test ∙ e)) ]) f
      where
        clash : true ≡ false → ⊥
        clash e = cc

-- ---- divisors with the same quotient

up_same : (a b c : ℕ) → 0 < b → b ≤ c → c ≤ a / max (a / b) 1 → a / c ≡ a / b
up_same a b c h l k =
    let q = a / b in
    let m = max q 1 in
    let above : q ≤ m = omega arith in
    let some : 0 < m = omega arith in
    let one : c * m ≤ a = (le-div_iff_mul-le some).0 k in
    let two : c * q ≤ c * m = mul-le c q c m (omega arith) above in
    let next : a / b < q + 1 = omega arith in
    let three : a < (q + 1) * b = (div-lt_iff_lt-mul h).0 next in
    let four : (q + 1) * b ≤ (q + 1) * c = mul-le (q + 1) b (q + 1) c (omega arith) l in
    let five : q * c ≡ c * q = omega arith in
    div-eq_of_lt-le c (omega arith) (omega arith)

down_same : (a b c : ℕ) → c ≤ b → a / (a / b + 1) + 1 ≤ c → a / c ≡ a / b
down_same a b c l k =
    let q = a / b in
    let one : q * c ≤ q * b = mul-le q c q b (omega arith) l in
    let two : q * b ≤ a = div-mul-le_self a b in
    let some : 0 < q + 1 = omega arith in
    let below : a / (q + 1) < c = omega arith in
    let three : a < c * (q + 1) = (div-lt_iff_lt-mul some).0 below in
    let four : (q + 1) * c ≡ c * (q + 1) = omega arith in
    div-eq_of_lt-le c (omega arith) (omega arith)

div_up : (x : ℤ) (b c : ℕ) → unsigned_abs x / c ≡ unsigned_abs x / b → int_div x (pos c) ≡ int_div x (pos b)
div_up (pos a) b c e = ap pos e
div_up (negsuc a) b c e = ap (λ k. neg_ℤ (pos k)) e

div_down : (x : ℤ) (b c : ℕ) → unsigned_abs x / suc c ≡ unsigned_abs x / suc b → int_div x (negsuc c) ≡ int_div x (negsuc b)
div_down (pos a) b c e = ap (λ k. neg_ℤ (pos k)) e
div_down (negsuc a) b c e = ap pos e

above_zero : (x y z : ℤ) (w : ℕ) → pos 0 <ℤ y → z ≡ y +ℤ pos w → 0 < w → w ≤ unsigned_abs x / max (unsigned_abs x / unsigned_abs y) 1 - unsigned_abs y → int_div x z ≡ int_div x y
above_zero x (pos b) z w h e m l = subst (λ t. int_div x t ≡ int_div x (pos b)) (sym e ∙ refl) (div_up x b (b + w) (up_same (unsigned_abs x) b (b + w) (omega (arith, ints)) (omega arith) (omega arith)))
above_zero x (negsuc b) z w h e m l = absurd (omega (arith, ints))

below_zero : (x y z : ℤ) (w : ℕ) → y <ℤ pos 0 → z ≡ y +ℤ pos w → 0 < w → w ≤ unsigned_abs y - (unsigned_abs x / (unsigned_abs x / unsigned_abs y + 1) + 1) → int_div x z ≡ int_div x y
below_zero x (pos b) z w h e m l = absurd (omega (arith, ints))
below_zero x (negsuc b) z w h e m l =
    let k : z ≡ negsuc (b - w) = omega (arith, ints) in
    subst (λ t. int_div x t ≡ int_div x (negsuc b)) (sym k) (div_down x b (b - w) (down_same (unsigned_abs x) (suc b) (suc (b - w)) (omega arith) (omega arith)))

-- divisors with the same quotient give the same
same_quotient : (signed : Bool) (width : ℕ) (x y z n : ℤ) → is_zero y ≡ false → int_div x z ≡ int_div x y → operated (op_of Quotient) signed width x z ≡ Ok n → operated (op_of Quotient) signed width x y ≡ Ok n
same_quotient signed width x y z n h e q =
    let d = divided_is Quotient signed width x z n q in
    is_divided Quotient signed width x y h (subst (FitsEnds (least_of signed width) (greatest_of signed width)) e d.fits) ∙ ap Ok (sym e ∙ sym d.is)

same_result : (part : Part) (signed : Bool) (width : ℕ) (x y z n : ℤ) (stride k : ℕ) → 0 < stride → 0 < k → k ≤ same_results part x y stride → z ≡ y +ℤ pos (k * stride) → operated (op_of part) signed width x z ≡ Ok n → operated (op_of part) signed width x y ≡ Ok n
same_result Remainder signed width x y z n stride k m h l e q = absurd (omega arith)
same_result Quotient signed width x y z n stride k m h l e q = by_tests (is_zero y) (int_lt y (pos 0)) (λ t. t) (λ t. lt_true y (pos 0) t) (λ t. lt_false y (pos 0) t) l
  where
    moved : 0 < k * stride
    moved = let a : 1 * 1 ≤ k * stride = mul-le 1 1 k stride h m in omega arith

    not_at : pos 0 ≤ℤ y → is_zero y ≡ false → pos 0 <ℤ y
    not_at b t = by_lt_z (pos 0) y (λ i. i) (λ i. absurd (nothing y b i t))
      where
        nothing : (y : ℤ) → pos 0 ≤ℤ y → y ≤ℤ pos 0 → is_zero y ≡ false → ⊥
        nothing (pos zero) b i t = cc
        nothing (pos (suc a)) b i t = absurd (omega (arith, ints))
        nothing (negsuc a) b i t = absurd (omega (arith, ints))

    by_tests : (t u : Bool) → (t ≡ false → is_zero y ≡ false) → (u ≡ true → y <ℤ pos 0) → (u ≡ false → pos 0 ≤ℤ y) →
        k ≤ cond t 0
        (cond u ((unsigned_abs y - (unsigned_abs x / (unsigned_abs x / unsigned_abs y + 1) + 1)) / stride) ((unsigned_abs x / max (unsigned_abs x / unsigned_abs y) 1 - unsigned_abs y) / stride)) →
        operated (op_of Quotient) signed width x y ≡ Ok n
    by_tests true u f g b l = absurd (omega arith)
    by_tests false true f g b l = same_quotient signed width x y z n (f refl) (below_zero x y z (k * stride) (g refl) e moved ((le-div_iff_mul-le m).0 l)) q
    by_tests false false f g b l = same_quotient signed width x y z n (f refl) (above_zero x y z (k * stride) (not_at (b refl) (f refl)) e moved ((le-div_iff_mul-le m).0 l)) q

on_from : (low : ℤ) (at j stride : ℕ) → suc at ≤ j → low +ℤ pos (j * stride) ≡ (low +ℤ pos (at * stride)) +ℤ pos ((j - at) * stride)
on_from low at j stride h =
    let k = j - at in
    let e : j ≡ at + k = omega arith in
    ap (λ i. low +ℤ pos (i * stride)) e ∙ apart_steps low at k stride
  where
    apart_steps : (low : ℤ) (at k stride : ℕ) → low +ℤ pos ((at + k) * stride) ≡ (low +ℤ pos (at * stride)) +ℤ pos (k * stride)
    apart_steps low at k stride = let e : (at + k) * stride ≡ at * stride + k * stride = omega arith in omega (arith, ints)

place_or : (at place : ℕ) → at ≤ place → (place ≡ at) ⊎ (suc at ≤ place)
place_or at place h = by_lt_z (pos at) (pos place) (λ l. inr (omega (arith, ints))) (λ l. inl (omega (arith, ints)))

-- ---- the other divisors

-- the numbers of a list are those of a set
pub record Lists (ys : List ℤ) (u : Shape) : Type 0 where
  pub onto : (y : ℤ) → Among ys y → Has u y
  pub back : (y : ℤ) → Has u y → Among ys y

pub run_lists : (p : Progression) → IsLongRun p → Lists (steps_from p.low p.stride (apart p.low p.high / p.stride + 1)) (Many p)
run_lists p l =
    let hi = Steps-high p l in
    let e : p.high ≡ p.low +ℤ pos (apart p.low p.high) = apart_is p.low p.high hi.above in
    let w : apart p.low p.high / p.stride * p.stride ≡ apart p.low p.high = div-mul_cancel p.stride hi.meets in
    record {
      onto = λ y m.
          let a = steps_from-at p.low p.stride (apart p.low p.high / p.stride + 1) y m in
          Steps-from_at p a.place y a.is (below p.low p.high y a.place (apart p.low p.high / p.stride) p.stride (apart p.low p.high) a.is a.within w e);
      back = λ y h. Steps-among p (apart p.low p.high / p.stride + 1) y l.moves h (beyond p.low p.high (apart p.low p.high / p.stride) p.stride (apart p.low p.high) l.moves w e);
    }
  where
    below : (low high y : ℤ) (j k s d : ℕ) → y ≡ low +ℤ pos (j * s) → j < k + 1 → k * s ≡ d → high ≡ low +ℤ pos d → y ≤ℤ high
    below low high y j k s d e h w f = let m : j * s ≤ k * s = mul-le j s k s (omega arith) (omega arith) in omega (arith, ints)

    beyond : (low high : ℤ) (k s d : ℕ) → 0 < s → k * s ≡ d → high ≡ low +ℤ pos d → high <ℤ (low +ℤ pos ((k + 1) * s))
    beyond low high k s d h w e = let m : (k + 1) * s ≡ k * s + s = omega arith in omega (arith, ints)

-- the numbers at the places of a run
pub place_in : (p : Progression) (d at : ℕ) → IsLongRun p → d ≡ unsigned_abs (p.high -ℤ p.low) → at < d / p.stride + 1 → Steps p (number_at p at)
place_in p d at l e h =
    (run_lists p l).onto (number_at p at)
    (steps_from-among p.low p.stride (apart p.low p.high / p.stride + 1) at (number_at p at) (subst (λ k. at < k + 1) (steps_to p.low p.high p.stride d e) h) refl)

row_numbers : (op : BinOp) (signed : Bool) (width : ℕ) (x : ℤ) (ys : List ℤ) → IsWidth width → FitsBits signed width x → AllNumbers (row op signed width x ys)
row_numbers op signed width x ys w f = AllNumbers-from_among (row op signed width x ys) (λ n m. let r = row-among op signed width x ys n m in ok_number op signed width x r.0 n w f r.2)

-- n is what x gives with a number of u
record WithOne (op : BinOp) (signed : Bool) (width : ℕ) (u : Shape) (x n : ℤ) : Type 0 where
  other : ℤ
  has : Has u other
  is : operated op signed width x other ≡ Ok n

listed_fits : (op : BinOp) (signed : Bool) (width : ℕ) (R : ℤ → Type 0) (s u : Shape) (x : ℤ) (ys : List ℤ) → IsWidth width → FitsBits signed width x → Lists ys u → Fits R s → Fits (λ n. R n ⊎ WithOne op signed width u x n) (with_numbers s (row op signed width x ys))
listed_fits op signed width R s u x ys w f l g =
    Fits-same (λ n. R n ⊎ Among (row op signed width x ys) n) (λ n. R n ⊎ WithOne op signed width u x n) (with_numbers s (row op signed width x ys))
    (λ n h. elim h [ inl r ↦ inl r | inr m ↦ inr (let r = row-among op signed width x ys n m in record { other = r.0; has = l.onto r.0 r.1; is = r.2 }) ])
    (λ n h. elim h [ inl r ↦ inl r | inr m ↦ inr (among-row op signed width x ys m.other n (l.back m.other m.has) m.is) ])
    (Fits-with R s (row op signed width x ys) g (row_numbers op signed width x ys w f))

-- what is tried: the results in a set, or more than 8 of them
abbrev pub Tried : (ℤ → Type 0) → Option Shape → Type 0
Tried R None = HoldsNine R
Tried R (Some s) = Fits R s

Tried-same : (P Q : ℤ → Type 0) (o : Option Shape) → ((n : ℤ) → P n → Q n) → ((n : ℤ) → Q n → P n) → Tried P o → Tried Q o
Tried-same P Q None f g h = HoldsNine-map P Q f h
Tried-same P Q (Some s) f g h = Fits-same P Q s f g h

few_alone-tried : (R : ℤ → Type 0) (s : Shape) → Fits R s → Tried R (few_alone s)
few_alone-tried R (Few v) f = f
few_alone-tried R (Many p) f = elim f.sharp [ inl g ↦ HoldsNine-map (Steps p) R g (Steps-hold_nine p f.valid) | inr h ↦ h ]

going_on-tried : (R : ℤ → Type 0) (left : ℕ) (s : Shape) → Fits R s → Tried R (going_on left s)
going_on-tried R left s f = by_test (nat_lt left 64)
  where
    by_test : (b : Bool) → Tried R (cond b (Some s) (few_alone s))
    by_test true = f
    by_test false = few_alone-tried R s f

and_then-tried : (P Q : ℤ → Type 0) (o : Option Shape) (f : Shape → Option Shape) → ((n : ℤ) → P n → Q n) → Tried P o → ((s : Shape) → Fits P s → Tried Q (f s)) → Tried Q (and_then o f)
and_then-tried P Q None f g h k = HoldsNine-map P Q g h
and_then-tried P Q (Some s) f g h k = k s h

with_outcome-fits : (part : Part) (signed : Bool) (width : ℕ) (R : ℤ → Type 0) (x y : ℤ) (s : Shape) → IsWidth width → FitsBits signed width x → Fits R s →
    Fits (λ n. R n ⊎ (operated (op_of part) signed width x y ≡ Ok n)) (with_outcome part signed width x y s)
with_outcome-fits part signed width R x y s w f g =
    let r = operated (op_of part) signed width x y in
    Fits-same (λ n. R n ⊎ Among (kept r []) n) (λ n. R n ⊎ (r ≡ Ok n)) (with_numbers s (kept r []))
    (λ n h. elim h [ inl i ↦ inl i | inr m ↦ inr (only r n m) ]) (λ n h. elim h [ inl i ↦ inl i | inr e ↦ inr (one_kept r [] n (inl e)) ])
    (Fits-with R s (kept r []) g (AllNumbers-from_among (kept r []) (λ n m. ok_number (op_of part) signed width x y n w f (only r n m))))
  where
    only : (r : Result ℤ Kind) (n : ℤ) → Among (kept r []) n → r ≡ Ok n
    only r n m = elim (kept_one r [] n m) [ inl e ↦ e | inr i ↦ absurd i ]

-- n is what x gives with the number at one of these places
record Placed (part : Part) (signed : Bool) (width : ℕ) (x : ℤ) (p : Progression) (at left : ℕ) (n : ℤ) : Type 0 where
  place : ℕ
  above : at ≤ place
  below : place < at + left
  is : operated (op_of part) signed width x (number_at p place) ≡ Ok n

-- what is passed over gives no more than what is there
record Skips (part : Part) (signed : Bool) (width : ℕ) (R : ℤ → Type 0) (x : ℤ) (p : Progression) (at skip : ℕ) : Type 0 where
  known : (place : ℕ) → at ≤ place → place < at + skip → (n : ℤ) → operated (op_of part) signed width x (number_at p place) ≡ Ok n → R n

with_places-tried : (left skip : ℕ) (part : Part) (signed : Bool) (width : ℕ) (R : ℤ → Type 0) (x : ℤ) (p : Progression) (at : ℕ) (s : Shape) → 0 < p.stride → IsWidth width → FitsBits signed width x → Skips part signed width R x p at skip → Fits R s →
    Tried (λ n. R n ⊎ Placed part signed width x p at left n) (with_places left skip part signed width x p at s)
unfolding with_places
with_places-tried zero skip part signed width R x p at s m w f k g =
    Fits-same R (λ n. R n ⊎ Placed part signed width x p at zero n) s (λ n r. inl r) (λ n h. elim h [ inl r ↦ r | inr i ↦ (let a = i.above in let b = i.below in absurd (omega arith)) ]) g
with_places-tried (suc left) (suc skip) part signed width R x p at s m w f k g =
    Tried-same (λ n. R n ⊎ Placed part signed width x p (suc at) left n) (λ n. R n ⊎ Placed part signed width x p at (suc left) n) (with_places left skip part signed width x p (suc at) s)
    (λ n h. elim h [ inl r ↦ inl r | inr i ↦ inr (let a = i.above in let b = i.below in record { place = i.place; above = omega arith; below = omega arith; is = i.is }) ])
    (λ n h. elim h [ inl r ↦ inl r | inr i ↦ later n i (place_or at i.place i.above) ])
    (with_places-tried left skip part signed width R x p (suc at) s m w f (record { known = λ j a b n e. k.known j (omega (arith, a)) (omega (arith, b)) n e }) g)
  where
    later : (n : ℤ) (i : Placed part signed width x p at (suc left) n) → (i.place ≡ at) ⊎ (suc at ≤ i.place) → R n ⊎ Placed part signed width x p (suc at) left n
    later n i (inl e) = inl (k.known i.place i.above (omega (arith, e)) n i.is)
    later n i (inr l) = let b = i.below in inr (record { place = i.place; above = l; below = omega arith; is = i.is })
with_places-tried (suc left) zero part signed width R x p at s m w f k g =
    let y = number_at p at in
    let S : ℤ → Type 0 = λ n. R n ⊎ (operated (op_of part) signed width x y ≡ Ok n) in
    let skip = same_results part x y p.stride in
    and_then-tried S (λ n. R n ⊎ Placed part signed width x p at (suc left) n) (going_on left (with_outcome part signed width x y s)) (λ t. with_places left skip part signed width x p (suc at) t)
    (λ n h. elim h [ inl r ↦ inl r | inr e ↦ inr (here n e) ])
    (going_on-tried S left (with_outcome part signed width x y s) (with_outcome-fits part signed width R x y s w f g))
    (λ t h.
    Tried-same (λ n. S n ⊎ Placed part signed width x p (suc at) left n) (λ n. R n ⊎ Placed part signed width x p at (suc left) n) (with_places left skip part signed width x p (suc at) t)
    (λ n i. elim i [
      | inl j ↦ elim j [ inl r ↦ inl r | inr e ↦ inr (here n e) ]
      | inr i ↦ inr (let a = i.above in let b = i.below in record { place = i.place; above = omega arith; below = omega arith; is = i.is })
    ])
    (λ n h. elim h [ inl r ↦ inl (inl r) | inr i ↦ later n i (place_or at i.place i.above) ])
    (with_places-tried left skip part signed width S x p (suc at) t m w f
    (record { known = λ j a b n e. inr (same_result part signed width x (number_at p at) (number_at p j) n p.stride (j - at) m (omega (arith, a)) (omega (arith, b)) (on_from p.low at j p.stride (omega (arith, a))) e) }) h))
  where
    here : (n : ℤ) → operated (op_of part) signed width x (number_at p at) ≡ Ok n → Placed part signed width x p at (suc left) n
    here n e = record { place = at; above = omega arith; below = omega arith; is = e }

    later : (n : ℤ) (i : Placed part signed width x p at (suc left) n) → (i.place ≡ at) ⊎ (suc at ≤ i.place) → (R n ⊎ (operated (op_of part) signed width x (number_at p at) ≡ Ok n)) ⊎ Placed part signed width x p (suc at) left n
    later n i (inl e) = inl (inr (ap (λ j. operated (op_of part) signed width x (number_at p j)) (sym e) ∙ i.is))
    later n i (inr l) = let b = i.below in inr (record { place = i.place; above = l; below = omega arith; is = i.is })

with_divisors-tried : (part : Part) (signed : Bool) (width : ℕ) (R : ℤ → Type 0) (s u : Shape) (x : ℤ) → IsWidth width → FitsBits signed width x → IsValid u → Fits R s → Tried (λ n. R n ⊎ WithOne (op_of part) signed width u x n) (with_divisors part signed width x u s)
unfolding with_divisors
with_divisors-tried part signed width R s (Few v) x w f l g = listed_fits (op_of part) signed width R s (Few v) x v.items w f (record { onto = λ y m. m; back = λ y m. m }) g
with_divisors-tried part signed width R s (Many p) x w f l g =
    let count = apart p.low p.high / p.stride + 1 in
    let c = run_lists p l in
    Tried-same (λ n. R n ⊎ Placed part signed width x p 0 count n) (λ n. R n ⊎ WithOne (op_of part) signed width (Many p) x n) (with_places count 0 part signed width x p 0 s)
    (λ n h. elim h [
      | inl r ↦ inl r
      | inr i ↦ inr (record { other = number_at p i.place; has = c.onto (number_at p i.place) (steps_from-among p.low p.stride count i.place (number_at p i.place) (from_none i.place (apart p.low p.high / p.stride + 1) i.below) refl); is = i.is })
    ])
    (λ n h. elim h [
      | inl r ↦ inl r
      | inr m ↦ inr (let a = steps_from-at p.low p.stride count m.other (c.back m.other m.has) in record { place = a.place; above = omega arith; below = to_none a.place (apart p.low p.high / p.stride + 1) a.within; is = ap (operated (op_of part) signed width x) (sym a.is) ∙ m.is })
    ])
    (with_places-tried count 0 part signed width R x p 0 s l.moves w f (record { known = λ j a b n e. absurd (omega (arith, b)) }) g)
  where
    from_none : (j k : ℕ) → j < 0 + k → j < k
    from_none j k h = omega arith

    to_none : (j k : ℕ) → j < k → j < 0 + k
    to_none j k h = omega arith

-- ---- one number and many

near_end : (x : ℤ) → IsNumber x → IsNumber (pos (unsigned_abs x))
near_end x h = let a = h.least in let b = h.greatest in record { least = omega (arith, ints); greatest = omega (arith, ints) }

near_start : (x : ℤ) → IsNumber x → IsNumber (neg_ℤ (pos (unsigned_abs x)))
near_start x h = let a = h.least in let b = h.greatest in record { least = omega (arith, ints); greatest = omega (arith, ints) }

-- the numbers that are not farther from 0 than x
pub near_typed : (signed : Bool) (width : ℕ) (t : Shape) (x : ℤ) → IsValid t → Typed signed width (Has t) → IsNumber x → (n : ℤ) → Has (clipped (neg_ℤ (pos (unsigned_abs x))) (pos (unsigned_abs x)) t) n → FitsBits signed width n
near_typed signed width t x v u i n h = u.fits n ((clipped-exactly (neg_ℤ (pos (unsigned_abs x))) (pos (unsigned_abs x)) t v (near_start x i) (near_end x i)).only n h).has

number_divided-tried : (part : Part) (signed : Bool) (width : ℕ) (R : ℤ → Type 0) (s t : Shape) (x : ℤ) → IsWidth width → IsValid t → Typed signed width (Has t) → FitsBits signed width x → Fits R s →
    Tried (λ n. R n ⊎ ByNumber part signed width t x n) (number_divided part signed width t s x)
unfolding number_divided
number_divided-tried part signed width R s t x w v u f g =
    let i = operand_number x (fits_operand signed width x w.some w.room f) in
    let near = clipped (neg_ℤ (pos (unsigned_abs x))) (pos (unsigned_abs x)) t in
    let c = clipped-exactly (neg_ℤ (pos (unsigned_abs x))) (pos (unsigned_abs x)) t v (near_start x i) (near_end x i) in
    let d = with_divisors-tried part signed width (λ n. R n ⊎ FromFar part t x n) (with_far part x t s) near x w f c.valid (with_far-fits part R s t x i g) in
    Tried-same (λ n. (R n ⊎ FromFar part t x n) ⊎ WithOne (op_of part) signed width near x n) (λ n. R n ⊎ ByNumber part signed width t x n) (with_divisors part signed width x near (with_far part x t s))
    (λ n h. elim h [
      | inl k ↦ elim k [
        | inl q ↦ inl q
        | inr m ↦ let y = far_true t x (bounds_of t) (bounds_are t v) m.test in inr (record { divisor = y.divisor; has = y.has; is = far_result part signed width x y.divisor w y.far ∙ ap Ok (sym m.same) })
      ]
      | inr m ↦ inr (record { divisor = m.other; has = (c.only m.other m.has).has; is = m.is })
    ])
    (λ n h. elim h [ inl q ↦ inl (inl q) | inr m ↦ by_place near c n m ])
    d
  where
    beyond : (n y : ℤ) → Has t y → (y <ℤ neg_ℤ (pos (unsigned_abs x))) ⊎ (pos (unsigned_abs x) <ℤ y) → unsigned_abs x < unsigned_abs y → operated (op_of part) signed width x y ≡ Ok n → FromFar part t x n
    beyond n y h l k q = record { test = true_far t x y (bounds_of t) (bounds_are t v) h l; same = (divided_is part signed width x y n q).is ∙ far_is part x y k }

    by_place : (near : Shape) → Exactly (Between (Has t) (neg_ℤ (pos (unsigned_abs x))) (pos (unsigned_abs x))) near → (n : ℤ) → ByNumber part signed width t x n → (R n ⊎ FromFar part t x n) ⊎ WithOne (op_of part) signed width near x n
    by_place near c n m = by_lt_z m.divisor (neg_ℤ (pos (unsigned_abs x)))
        (λ l. inl (inr (beyond n m.divisor m.has (inl l) (omega (arith, ints)) m.is)))
        (λ l. by_lt_z (pos (unsigned_abs x)) m.divisor
        (λ k. inl (inr (beyond n m.divisor m.has (inr k) (omega (arith, ints)) m.is)))
        (λ k. inr (record { other = m.divisor; has = c.holds m.divisor (record { has = m.has; above = l; below = k }); is = m.is })))

numbers_onto : (part : Part) (signed : Bool) (width : ℕ) (R : ℤ → Type 0) (o : Option Shape) (t : Shape) (xs : List ℤ) → IsWidth width → IsValid t → Typed signed width (Has t) → Typed signed width (Among xs) → Tried R o →
    Tried (λ n. R n ⊎ Made (op_of part) signed width (Among xs) (Has t) n) (numbers_divided part signed width t o xs)
unfolding numbers_divided
numbers_onto part signed width R o t [] w v u f g = Tried-same R (λ n. R n ⊎ Made (op_of part) signed width (Among []) (Has t) n) o (λ n q. inl q) (λ n h. elim h [ inl q ↦ q | inr m ↦ absurd m.has_left ]) g
numbers_onto part signed width R None t (x ∷ xs) w v u f g = HoldsNine-map R (λ n. R n ⊎ Made (op_of part) signed width (Among (x ∷ xs)) (Has t) n) (λ n r. inl r) g
numbers_onto part signed width R (Some s) t (x ∷ xs) w v u f g =
    Tried-same (λ n. (R n ⊎ ByNumber part signed width t x n) ⊎ Made (op_of part) signed width (Among xs) (Has t) n) (λ n. R n ⊎ Made (op_of part) signed width (Among (x ∷ xs)) (Has t) n) (numbers_divided part signed width t (number_divided part signed width t s x) xs)
    (λ n h. elim h [
      | inl i ↦ elim i [ inl p ↦ inl p | inr m ↦ inr (record { left = x; right = m.divisor; has_left = inl refl; has_right = m.has; is = m.is }) ]
      | inr m ↦ inr (record { left = m.left; right = m.right; has_left = inr m.has_left; has_right = m.has_right; is = m.is })
    ])
    (λ n h. elim h [ inl p ↦ inl (inl p) | inr m ↦ back n m m.has_left ])
    (numbers_onto part signed width (λ n. R n ⊎ ByNumber part signed width t x n) (number_divided part signed width t s x) t xs w v u (record { fits = λ n m. f.fits n (inr m) }) (number_divided-tried part signed width R s t x w v u (f.fits x (inl refl)) g))
  where
    back : (n : ℤ) (m : Made (op_of part) signed width (Among (x ∷ xs)) (Has t) n) → (m.left ≡ x) ⊎ Among xs m.left → (R n ⊎ ByNumber part signed width t x n) ⊎ Made (op_of part) signed width (Among xs) (Has t) n
    back n m (inl i) = inl (inr (record { divisor = m.right; has = m.has_right; is = ap (λ z. operated (op_of part) signed width z m.right) (sym i) ∙ m.is }))
    back n m (inr i) = inr (record { left = m.left; right = m.right; has_left = i; has_right = m.has_right; is = m.is })

-- all results, or more than 8 of them
pub numbers_divided-tried : (part : Part) (signed : Bool) (width : ℕ) (t : Shape) (xs : List ℤ) → IsWidth width → IsValid t → Typed signed width (Has t) → Typed signed width (Among xs) → Tried (Made (op_of part) signed width (Among xs) (Has t)) (numbers_divided part signed width t (Some none) xs)
numbers_divided-tried part signed width t xs w v u f =
    Tried-same (λ n. ⊥ ⊎ Made (op_of part) signed width (Among xs) (Has t) n) (Made (op_of part) signed width (Among xs) (Has t)) (numbers_divided part signed width t (Some none) xs)
    (λ n h. elim h [ inl q ↦ absurd q | inr m ↦ m ]) (λ n m. inr m)
    (numbers_onto part signed width (λ n. ⊥) (Some none) t xs w v u f (Makes-fits (λ n. ⊥) none (Exactly-makes (λ n. ⊥) none none-exactly)))
