-- Numbers divided by a positive number, rounded down.
use Rattle.std.proofs.Common.{◌≡◌, ℕ, zero, suc, ◌*◌, ◌/◌, ◌%◌, ◌<◌, ◌==◌, Bool, true, false, cond, ℤ, pos, negsuc, ◌+ℤ◌, refl, sym, subst, ap, ◌∙◌, arith}
use Rattle.std.specs.Prelude.{neg_ℤ, ◌*ℤ◌}
use Rattle.std.specs.Int.{◌∣◌}
use Rattle.ival_core.proofs.Distances.{apart_onto}
use Rattle.std.proofs.lemmas.Int.{ints, by_lt_z}
use Rattle.std.proofs.lemmas.Nat.{mod_below}
use Rattle.std.proofs.lemmas.Bool.{eqb-true}
use Rattle.std.proofs.lemmas.Nat.Gcd.{dvd_of_mod-eq-zero}
use Rattle.std.proofs.Math.Nat.{dvd-mul_left, div-mul-le_self, div-add-mod, div-mul_cancel, div-le_self, one-dvd}
use lib.Signed.{◌<ℤ◌, ◌≤ℤ◌}
use Rattle.c_base.specs.Operators.{floor}
use Rattle.c_base.proofs.Products.{add-mul}
use Rattle.ival_core.specs.declared.value.Progression.{Progression}
use Rattle.ival_core.specs.declared.value.Shape.{Shape}
use Rattle.ival_core.specs.declared.value.Shape.TheVariants.{Few, Many}
use Rattle.ival_core.specs.Sets.{apart, IsNumber, IsLongRun, IsValid, Has, Steps}
use Rattle.ival_core.proofs.Insertion.{AllNumbers-among}
use Rattle.ival_core.proofs.Runs.{Steps-low}
use Rattle.ival_arith.proofs.Parts.{Image, mapped-makes, run-exactly, at_place, scaled_order}
use Rattle.ival_arith.proofs.Spreading.{Covers}
use Rattle.ival_arith.specs.Floors.{run_floored, floored}

pub neg_times : (k d : ℕ) → negsuc k *ℤ pos d ≡ neg_ℤ (pos (suc k * d))
neg_times k d = omega (arith, ints)

pub floor_low : (x : ℤ) (d : ℕ) → 0 < d → (floor x d *ℤ pos d) ≤ℤ x
floor_low (pos n) d h = let a = div-mul-le_self n d in omega (arith, ints)
floor_low (negsuc n) d h =
    let a = mod_below n d h in let b = div-add-mod n d in let e = neg_times (n / d) d in
    omega (arith, ints)

pub floor_high : (x : ℤ) (d : ℕ) → 0 < d → x <ℤ (floor x d *ℤ pos d +ℤ pos d)
floor_high (pos n) d h = let a = mod_below n d h in let b = div-add-mod n d in omega (arith, ints)
floor_high (negsuc n) d h = let a = div-mul-le_self n d in let e = neg_times (n / d) d in omega (arith, ints)

pub one_more : (q : ℤ) (d : ℕ) → (q +ℤ pos 1) *ℤ pos d ≡ q *ℤ pos d +ℤ pos d
one_more q d = let e = add-mul q (pos 1) (pos d) in let f : pos 1 *ℤ pos d ≡ pos d = omega (arith, ints) in e ∙ ap (λ z. q *ℤ pos d +ℤ z) f

-- products with d tell numbers apart
pub below_of : (p q : ℤ) (d : ℕ) → (p *ℤ pos d) <ℤ (q *ℤ pos d +ℤ pos d) → p ≤ℤ q
below_of p q d h = by_lt_z q p
    (λ l. let a = scaled_order (q +ℤ pos 1) p d (omega (arith, ints)) in let e = one_more q d in absurd (omega (arith, ints)))
    (λ l. l)

pub floor_is : (x q : ℤ) (d : ℕ) → 0 < d → (q *ℤ pos d) ≤ℤ x → x <ℤ (q *ℤ pos d +ℤ pos d) → floor x d ≡ q
floor_is x q d h low high =
    let a = floor_low x d h in let b = floor_high x d h in
    let c = below_of (floor x d) q d (omega (arith, ints)) in
    let e = below_of q (floor x d) d (omega (arith, ints)) in
    omega (arith, ints)

pub floor_order : (x y : ℤ) (d : ℕ) → 0 < d → x ≤ℤ y → floor x d ≤ℤ floor y d
floor_order x y d h l = let a = floor_low x d h in let b = floor_high y d h in below_of (floor x d) (floor y d) d (omega (arith, ints))

pub floor_further : (x : ℤ) (j k d : ℕ) → 0 < d → floor (x +ℤ pos (j * (k * d))) d ≡ floor x d +ℤ pos (j * k)
floor_further x j k d h =
    let a = floor_low x d h in let b = floor_high x d h in
    let e : (floor x d +ℤ pos (j * k)) *ℤ pos d ≡ floor x d *ℤ pos d +ℤ pos (j * (k * d)) = add-mul (floor x d) (pos (j * k)) (pos d) ∙ ap (λ z. floor x d *ℤ pos d +ℤ z) (whole j k d) in
    floor_is (x +ℤ pos (j * (k * d))) (floor x d +ℤ pos (j * k)) d h (omega (arith, ints)) (omega (arith, ints))
  where
    whole : (j k d : ℕ) → pos (j * k) *ℤ pos d ≡ pos (j * (k * d))
    whole j k d = ap pos (omega arith)

pub floor_number : (x : ℤ) (d : ℕ) → IsNumber x → IsNumber (floor x d)
floor_number (pos n) d h = let a = h.greatest in let b = div-le_self n d in record { least = omega (arith, ints); greatest = omega (arith, ints) }
floor_number (negsuc n) d h = let a = h.least in let b = div-le_self n d in record { least = omega (arith, ints); greatest = omega (arith, ints) }

-- ---- sets

pub step_some : (s d : ℕ) → 0 < s → 0 < d → 0 < cond (s % d == 0) (s / d) 1
step_some s d h k = by_test (s % d == 0) (λ e. whole (dvd_of_mod-eq-zero d (eqb-true (s % d) 0 e)))
  where
    whole : d ∣ s → 0 < s / d
    whole m = let e = div-mul_cancel d m in positive (s / d) d s e h
      where
        positive : (q d s : ℕ) → q * d ≡ s → 0 < s → 0 < q
        positive zero d s e h = absurd (omega (arith, e))
        positive (suc q) d s e h = omega arith

    by_test : (t : Bool) → (t ≡ true → 0 < s / d) → 0 < cond t (s / d) 1
    by_test true f = f refl
    by_test false f = omega arith

pub run_floored-covers : (d : ℕ) (p : Progression) → 0 < d → IsLongRun p → Covers (Image (Steps p) (λ n. floor n d)) (run_floored d p)
run_floored-covers d p h l =
    let lo : p.low ≤ℤ p.high = (Steps-low p l).below in
    let step = cond (p.stride % d == 0) (p.stride / d) 1 in
    let x = run-exactly (floor p.low d) (floor p.high d) step (floor_number p.low d l.first) (floor_number p.high d l.last) (floor_order p.low p.high d h lo) (step_some p.stride d l.moves h) in
    record {
      valid = x.valid;
      holds = λ n i. x.holds n (subst (Steps (record { low = floor p.low d; high = floor p.high d; stride = step })) (sym i.is) (record {
        above = floor_order p.low i.from d h i.has.above;
        below = floor_order i.from p.high d h i.has.below;
        meets = by_test (p.stride % d == 0) (λ e. dvd_of_mod-eq-zero d (eqb-true (p.stride % d) 0 e)) i.from i.has;
      }));
    }
  where
    place : (m : d ∣ p.stride) (n : ℤ) → Steps p n → p.stride / d ∣ apart (floor p.low d) (floor n d)
    place m n s =
        let q = at_place p n s in
        let e : p.stride ≡ p.stride / d * d = sym (div-mul_cancel d m) in
        let f : floor n d ≡ floor p.low d +ℤ pos (q.0 * (p.stride / d)) = ap (λ z. floor z d) (q.1 ∙ ap (λ z. p.low +ℤ pos (q.0 * z)) e) ∙ floor_further p.low q.0 (p.stride / d) d h in
        subst (λ z. p.stride / d ∣ z) (sym (ap (apart (floor p.low d)) f ∙ apart_onto (floor p.low d) (q.0 * (p.stride / d)))) (dvd-mul_left (p.stride / d) q.0)

    by_test : (t : Bool) → (t ≡ true → d ∣ p.stride) → (n : ℤ) → Steps p n → cond t (p.stride / d) 1 ∣ apart (floor p.low d) (floor n d)
    by_test true f n s = place (f refl) n s
    by_test false f n s = one-dvd (apart (floor p.low d) (floor n d))

pub floored-covers : (d : ℕ) (s : Shape) → 0 < d → IsValid s → Covers (Image (Has s) (λ n. floor n d)) (floored d s)
unfolding floored
floored-covers d (Few v) h l =
    let m = mapped-makes (λ n. floor n d) v.items (λ n i. floor_number n d (AllNumbers-among v.items l.numbers n i)) in
    record { valid = m.valid; holds = m.least.holds }
floored-covers d (Many p) h l = run_floored-covers d p h l
