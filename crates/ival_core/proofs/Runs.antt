-- Numbers in equal steps, as a list and as a progression.
use Rattle.std.proofs.Common.{◌≡◌, ◌↔◌, ℕ, zero, suc, ◌*◌, ◌%◌, ◌++◌, [], ◌∷◌, ◌/◌, ◌<◌, ◌≤◌, ℤ, pos, ◌+ℤ◌, ◌-ℤ◌, length, refl, sym, subst, ap, ◌∙◌, inl, inr, arith, eq-eqb, IsTrue, nat_eq}
use Rattle.std.proofs.Math.Nat.{dvd-mul_left, div-mul_cancel}
use Rattle.std.proofs.lemmas.Nat.Gcd.{dvd_of_mod-eq-zero, mod-eq-zero_of_dvd}
use Rattle.std.proofs.lemmas.Nat.{mul-le, div_below}
use Rattle.std.proofs.lemmas.Int.{ints, to_z-of_z}
use borrow.Author.Tests.{eqb-true}
use mir.Val.{to_z, of_z}
use Rattle.std.specs.Int.{◌∣◌, w128}
use Rattle.std.specs.Prelude.{FitsSigned, unsigned_abs}
use lib.Signed.{◌<ℤ◌, ◌≤ℤ◌}
use Rattle.ival_core.specs.declared.value.Progression.{Progression}
use Rattle.ival_core.specs.Sets.{IsNumber, IsLongRun, IsAscending, Among, Steps, steps_from, apart}
use Rattle.ival_core.proofs.Distances.{apart_is, apart_onto}
use Rattle.ival_core.proofs.Counting.{AllAbove-from_among}

pub number_fits : (n : ℤ) → IsNumber n → FitsSigned w128 n
number_fits n h = omega (arith, ints)

-- two numbers with the same bits
pub same_bits : (a b : ℤ) → FitsSigned w128 a → FitsSigned w128 b → of_z w128 a ≡ of_z w128 b → a ≡ b
same_bits a b f g e = sym (to_z-of_z w128 a f) ∙ ap (to_z w128) e ∙ to_z-of_z w128 b g

-- the number at a place of the run
pub record At (first : ℤ) (stride count : ℕ) (n : ℤ) : Type 0 where
  pub place : ℕ
  pub within : place < count
  pub is : n ≡ first +ℤ pos (place * stride)

pub steps_from-at : (first : ℤ) (stride count : ℕ) (n : ℤ) → Among (steps_from first stride count) n → At first stride count n
steps_from-at first stride zero n m = absurd m
steps_from-at first stride (suc count) n (inl e) = record { place = 0; within = omega arith; is = omega (arith, ints) }
steps_from-at first stride (suc count) n (inr m) =
    let r = steps_from-at (first +ℤ pos stride) stride count n m in
    let e : n ≡ (first +ℤ pos stride) +ℤ pos (r.place * stride) = r.is in
    record { place = suc r.place; within = omega (arith, r.within); is = omega (arith, ints, e) }

pub steps_from-among : (first : ℤ) (stride count k : ℕ) (n : ℤ) → k < count → n ≡ first +ℤ pos (k * stride) → Among (steps_from first stride count) n
steps_from-among first stride zero k n h e = absurd (omega arith)
steps_from-among first stride (suc count) zero n h e = inl (omega (arith, ints))
steps_from-among first stride (suc count) (suc k) n h e =
    inr (steps_from-among (first +ℤ pos stride) stride count k n (omega arith) (omega (arith, ints)))

pub length-steps_from : (first : ℤ) (stride count : ℕ) → length (steps_from first stride count) ≡ count
length-steps_from first stride zero = refl
length-steps_from first stride (suc count) = ap suc (length-steps_from (first +ℤ pos stride) stride count)

pub steps_from-ascending : (first : ℤ) (stride count : ℕ) → 0 < stride → IsAscending (steps_from first stride count)
steps_from-ascending first stride zero h = tt
steps_from-ascending first stride (suc count) h = (
  AllAbove-from_among first (steps_from (first +ℤ pos stride) stride count) (λ n m. above first stride count n h (steps_from-at (first +ℤ pos stride) stride count n m)),
  steps_from-ascending (first +ℤ pos stride) stride count h,
)
  where
    above : (first : ℤ) (stride count : ℕ) (n : ℤ) → 0 < stride → At (first +ℤ pos stride) stride count n → first <ℤ n
    above first stride count n h r = let e = r.is in omega (arith, ints)

-- a number of a long run is a number at a place of it
pub Steps-at : (p : Progression) (n : ℤ) → IsLongRun p → Steps p n → (k : ℕ) × (n ≡ p.low +ℤ pos (k * p.stride))
Steps-at p n v s =
    let e : n ≡ p.low +ℤ pos (apart p.low n) = apart_is p.low n s.above in
    let k : apart p.low n / p.stride * p.stride ≡ apart p.low n = div-mul_cancel p.stride s.meets in
    (apart p.low n / p.stride, e ∙ ap (λ x. p.low +ℤ pos x) (sym k))

pub Steps-from_at : (p : Progression) (k : ℕ) (n : ℤ) → n ≡ p.low +ℤ pos (k * p.stride) → n ≤ℤ p.high → Steps p n
Steps-from_at p k n e h = record {
  above = omega (arith, ints);
  below = h;
  meets = subst (λ x. p.stride ∣ x) (sym (ap (apart p.low) e ∙ apart_onto p.low (k * p.stride))) (dvd-mul_left p.stride k);
}

-- both ends of a long run are numbers of it, and so is the second number
pub Steps-low : (p : Progression) → IsLongRun p → Steps p p.low
Steps-low p v = let h = v.long in Steps-from_at p 0 p.low (omega (arith, ints)) (omega (arith, ints))

pub Steps-second : (p : Progression) → IsLongRun p → Steps p (p.low +ℤ pos p.stride)
Steps-second p v = let h = v.long in Steps-from_at p 1 (p.low +ℤ pos p.stride) (omega (arith, ints)) (omega (arith, ints))

pub Steps-high : (p : Progression) → IsLongRun p → Steps p p.high
Steps-high p v = let h = v.long in record {
  above = omega (arith, ints);
  below = omega (arith, ints);
  meets = dvd_of_mod-eq-zero p.stride v.meets;
}

-- the first 9 numbers of a long run are numbers of it
pub Steps-nine : (p : Progression) → IsLongRun p → (n : ℤ) → Among (steps_from p.low p.stride 9) n → Steps p n
Steps-nine p v n m =
    let r = steps_from-at p.low p.stride 9 n m in
    let e = r.is in
    let l = v.long in
    let k : r.place * p.stride ≤ 8 * p.stride = mul-le (r.place) p.stride 8 p.stride (omega (arith, r.within)) (omega arith) in
    Steps-from_at p r.place n r.is (omega (arith, ints, e, k))

-- the test of a number against a long run, at its distance from the first number
pub Steps-tested : (p : Progression) (n : ℤ) (d : ℕ) → p.low ≤ℤ n → n ≤ℤ p.high → d ≡ unsigned_abs (n -ℤ p.low) → IsTrue (nat_eq (d % p.stride) 0) ↔ Steps p n
unfolding apart
Steps-tested p n d h k e = (
  (λ t. record { above = h; below = k; meets = subst (λ x. p.stride ∣ x) e (dvd_of_mod-eq-zero p.stride (eqb-true (d % p.stride) 0 t)) }),
  (λ s. eq-eqb (d % p.stride) 0 (ap (λ x. x % p.stride) e ∙ mod-eq-zero_of_dvd p.stride s.meets)),
)

-- what divides the distance to the second number divides the stride
pub Steps-at_divisor : (d : ℕ) (low : ℤ) (stride : ℕ) → d ∣ apart low (low +ℤ pos stride) → d ∣ stride
Steps-at_divisor d low stride h = subst (λ x. d ∣ x) (apart_onto low stride) h

-- a number of a progression that stays below its first `count` steps is one of these
pub Steps-among : (p : Progression) (count : ℕ) (n : ℤ) → 0 < p.stride → Steps p n → p.high <ℤ (p.low +ℤ pos (count * p.stride)) → Among (steps_from p.low p.stride count) n
Steps-among p count n moves s h =
    let e : n ≡ p.low +ℤ pos (apart p.low n) = apart_is p.low n s.above in
    let k : apart p.low n / p.stride * p.stride ≡ apart p.low n = div-mul_cancel p.stride s.meets in
    let b = s.below in
    let l : apart p.low n < count * p.stride = omega (arith, ints, e) in
    steps_from-among p.low p.stride count (apart p.low n / p.stride) n
    (div_below (apart p.low n) p.stride count moves l)
    (e ∙ ap (λ x. p.low +ℤ pos x) (sym k))

pub Steps-number : (p : Progression) (n : ℤ) → IsLongRun p → Steps p n → IsNumber n
Steps-number p n l s =
    let a = l.first.least in
    let b = l.last.greatest in
    let c = s.above in
    let d = s.below in
    record { least = omega (arith, ints); greatest = omega (arith, ints) }

pub steps_from-suc : (first : ℤ) (stride k : ℕ) → steps_from first stride (suc k) ≡ steps_from first stride k ++ (first +ℤ pos (k * stride)) ∷ []
steps_from-suc first stride zero = let e : first ≡ first +ℤ pos (0 * stride) = omega (arith, ints) in ap (λ x. x ∷ []) e
steps_from-suc first stride (suc k) =
    let e : (first +ℤ pos stride) +ℤ pos (k * stride) ≡ first +ℤ pos (suc k * stride) = omega (arith, ints) in
    ap (λ xs. first ∷ xs) (steps_from-suc (first +ℤ pos stride) stride k ∙ ap (λ x. steps_from (first +ℤ pos stride) stride k ++ x ∷ []) e)
