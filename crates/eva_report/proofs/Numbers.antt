-- The numbers from a low one to a high one, as an entry shows them.
use Rattle.std.proofs.Common.{◌≡◌, ℕ, zero, suc, ◌+◌, ◌-◌, ◌*◌, ◌/◌, ◌<◌, ◌≤◌, Bool, true, false, cond, List, [], ◌∷◌, length, get_or, ℤ, refl, sym, ap, ◌∙◌, arith}
use Rattle.std.specs.Prelude.{pos, negsuc, nat_lt, int_lt, unsigned_abs, ◌+ℤ◌, ◌-ℤ◌, ◌<ℤ◌, ◌≤ℤ◌, Contains, if◌then◌else◌}
use Rattle.std.specs.Int.{int_rem_euclid}
use Rattle.std.proofs.lemmas.Int.{ints, int_rem_euclid_is}
use Rattle.std.proofs.lemmas.Bool.Decides.{nat_tests}
use Rattle.c_base.specs.Integers.{residue}
use Rattle.c_memory.specs.Rows.{Numbers, Few, Many, HoldsNumber}
use Rattle.ival_core.specs.Sets.{apart, steps_from}
use Rattle.ival_core.specs.Ranges.{ranged, first_from, run_shape}
use Rattle.eva_report.specs.Views.{numbers_of}
use Rattle.eva_report.specs.Grammar.{IsOrdered, AreNumbers, IsInterval}

-- what `range` shows of all numbers between two bounds that lie so far apart
abbrev pub between : ℤ → ℤ → ℕ → Numbers
between low high wide = cond (nat_lt wide 8) (Few (steps_from low 1 (wide + 1))) (Many low high 0 1)

rem_one : (n : ℤ) → int_rem_euclid n (pos 1) ≡ pos 0
rem_one (pos n) = int_rem_euclid_is (pos n) (pos 1) 1 0 n (omega arith) refl (omega (arith, ints)) ∙ ap pos (omega arith)
rem_one (negsuc n) = int_rem_euclid_is (negsuc n) (pos 1) 1 (suc n) 0 (omega arith) refl (omega (arith, ints)) ∙ ap pos (omega arith)

gap : (low high : ℤ) → low ≤ℤ high → (low +ℤ pos (apart low high)) ≡ high
unfolding apart
gap low high h = by_sign (high -ℤ low) refl
  where
    by_sign : (d : ℤ) → (high -ℤ low) ≡ d → (low +ℤ pos (unsigned_abs (high -ℤ low))) ≡ high
    by_sign (pos n) e = rw e (omega (arith, ints))
    by_sign (negsuc n) e = absurd (omega (arith, ints))

first_low : (low : ℤ) → first_from low (pos 0) (pos 1) ≡ low
first_low low = rw (rem_one (pos 0 -ℤ low)) (omega (arith, ints))

-- a range of all numbers from low to high
pub plain_range : (low high : ℤ) → low ≤ℤ high → numbers_of (ranged low high (pos 0) (pos 1)) ≡ between low high (apart low high)
unfolding ranged
plain_range low high h =
    let ordered : int_lt high low ≡ false = grind (arith, ints) in
    let whole : apart low high / 1 ≡ apart low high = omega arith in
    rw (first_low low, ordered, whole) (by_size (nat_lt (apart low high) 8) refl)
  where
    by_size : (t : Bool) → nat_lt (apart low high) 8 ≡ t → numbers_of (run_shape low 1 (apart low high)) ≡ between low high (apart low high)
    by_size true e = rw e refl
    by_size false e =
        let one : apart low high * 1 ≡ apart low high = omega arith in
        rw (e, one, gap low high h, rem_one low) refl

length-steps : (low : ℤ) (count : ℕ) → length (steps_from low 1 count) ≡ count
length-steps low zero = refl
length-steps low (suc count) = ap suc (length-steps (low +ℤ pos 1) count)

step_at : (low d : ℤ) (count k : ℕ) → k < count → get_or (steps_from low 1 count) k d ≡ (low +ℤ pos k)
step_at low d zero k h = absurd (omega arith)
step_at low d (suc count) zero h = omega (arith, ints)
step_at low d (suc count) (suc k) h = step_at (low +ℤ pos 1) d count k (omega arith) ∙ omega (arith, ints)

ordered_steps : (low : ℤ) (count : ℕ) → IsOrdered ◌<ℤ◌ (steps_from low 1 count)
ordered_steps low zero = tt
ordered_steps low (suc zero) = tt
ordered_steps low (suc (suc count)) = (omega (arith, ints), ordered_steps (low +ℤ pos 1) (suc count))

residue_one : (n : ℤ) → residue 1 n ≡ 0
residue_one (pos n) = omega arith
residue_one (negsuc n) = omega arith

-- a number between the bounds is one of those that are shown
pub range_holds : (low high n : ℤ) → low ≤ℤ n → n ≤ℤ high → HoldsNumber (numbers_of (ranged low high (pos 0) (pos 1))) n
range_holds low high n above below =
    let ordered : low ≤ℤ high = omega (arith, ints) in
    rw (plain_range low high ordered) (by_size (apart low high) (gap low high ordered) (nat_lt (apart low high) 8) refl)
  where
    by_size : (wide : ℕ) → (low +ℤ pos wide) ≡ high → (t : Bool) → nat_lt wide 8 ≡ t → HoldsNumber (cond t (Few (steps_from low 1 (wide + 1))) (Many low high 0 1)) n
    by_size wide e true f =
        let k = apart low n in
        let at = gap low n above in (
          k,
          rw (length-steps low (wide + 1)) (omega (arith, ints)),
          step_at low n (wide + 1) k (omega (arith, ints)) ∙ at,
        )
    by_size wide e false f = (above, below, residue_one n)

-- they are a set with 1 to 8 numbers, or an interval with more
pub range_shown : (low high : ℤ) → low ≤ℤ high → AreNumbers (numbers_of (ranged low high (pos 0) (pos 1)))
range_shown low high h = rw (plain_range low high h) (by_size (apart low high) (gap low high h) (nat_lt (apart low high) 8) refl)
  where
    by_size : (wide : ℕ) → (low +ℤ pos wide) ≡ high → (t : Bool) → nat_lt wide 8 ≡ t → AreNumbers (cond t (Few (steps_from low 1 (wide + 1))) (Many low high 0 1))
    by_size wide e true f =
        let small : wide < 8 = grind (arith, nat_tests) in
        let long = length-steps low (wide + 1) in (omega arith, omega arith, ordered_steps low (wide + 1))
    by_size wide e false f =
        let large : 8 ≤ wide = grind (arith, nat_tests) in
        record { moves = omega arith; below = omega arith; first = residue_one low; last = residue_one high; many = omega (arith, ints) }
