-- Operators on single numbers, as the code computes them.
use Rattle.std.proofs.Common.{◌≡◌, ℕ, zero, suc, ◌-◌, ◌*◌, ◌%◌, ◌^◌, ◌<◌, ◌≤◌, Bool, true, false, cond, ℤ, pos, negsuc, ◌+ℤ◌, ◌-ℤ◌, to_z, of_z, FitsSigned, Ok, Result, refl, sym, ap, ◌∙◌, arith}
use Rattle.std.specs.Prelude.{◌*ℤ◌, ◌&&◌, ◌||◌, int_div, int_rem, bit_and, bit_or, bit_xor, unsigned_abs, neg_ℤ}
use Rattle.std.specs.Int.{w128}
use Rattle.std.proofs.lemmas.Nat.{pow_pos, mod_below}
use Rattle.std.proofs.lemmas.Int.{ints, to_z-of_z, to_z_pos, rem_is}
use Rattle.std.proofs.lemmas.Bool.Decides.{nat_tests}
use Rattle.std.proofs.Math.Nat.{mod-eq_of_lt}
use Rattle.c_base.specs.declared.kind.Kind.{Kind}
use Rattle.c_base.specs.Integers.{residue, fits_bits, signed_number}
use Rattle.c_base.specs.Operators.{in_type, on_bits, complement, xor, quotient, remainder, is_zero}
use Rattle.c_base.proofs.Residues.{residue-mul, residue_below}
use Rattle.c_base.proofs.Patterns.{zip_bits-and, zip_bits-or, zip_bits-xor, map-not_are}

pub passed : {A : Type 0} (f : ℤ → A) (x : ℤ) → FitsSigned w128 x → f (to_z w128 (of_z w128 x)) ≡ f x
passed f x h = ap f (to_z-of_z w128 x h)

by_fits : (kind : Kind) (width : ℕ) (n : ℤ) (r : ℕ) (t : Bool) → residue (2 ^ width) n ≡ r →
    (t ≡ true → n ≡ pos r) → ◌≡◌ {A = Result ℤ Kind} (Ok (pos r)) (cond t (Ok n) (Ok (pos (residue (2 ^ width) n))))
by_fits kind width n r true e f = ap Ok (sym (f refl))
by_fits kind width n r false e f = ap (λ x. Ok (pos x)) (sym e)

own_residue : (width : ℕ) (n : ℤ) → fits_bits false width n ≡ true → n ≡ pos (residue (2 ^ width) n)
own_residue width (pos n) h =
    let p = pow_pos width in
    let k : n < 2 ^ width = below width n p h in
    ap pos (sym (mod-eq_of_lt k))
  where
    below : (width n : ℕ) → 0 < 2 ^ width → fits_bits false width (pos n) ≡ true → n < 2 ^ width
    below width n p h = let k : n ≤ 2 ^ width - 1 = grind (arith, nat_tests) in omega arith
own_residue width (negsuc n) h = cc

pub unsigned_product : (kind : Kind) (signed : Bool) (width : ℕ) (a b : ℤ) (r : ℕ) → signed ≡ false → r ≡ (residue (2 ^ width) a * residue (2 ^ width) b) % 2 ^ width →
    Ok (pos r) ≡ in_type kind signed width (a *ℤ b)
unsigned_product kind true width a b r s e = cc
unsigned_product kind false width a b r s e =
    let k : residue (2 ^ width) (a *ℤ b) ≡ r = residue-mul (2 ^ width) a b (pow_pos width) ∙ sym e in
    by_fits kind width (a *ℤ b) r (fits_bits false width (a *ℤ b)) k (λ t. own_residue width (a *ℤ b) t ∙ ap pos k)

pub product_code : (kind : Kind) (signed : Bool) (width : ℕ) (a b : ℤ) (x y : ℕ) (p : ℤ) → signed ≡ false → x ≡ residue (2 ^ width) a → y ≡ residue (2 ^ width) b →
    p ≡ pos (2 ^ width) → 2 ^ width ≤ 2 ^ 64 → FitsSigned w128 p →
    Ok (to_z w128 (x * y % unsigned_abs (to_z w128 (of_z w128 p)))) ≡ in_type kind signed width (a *ℤ b)
product_code kind signed width a b x y p s e f g small fits =
    let h : unsigned_abs (to_z w128 (of_z w128 p)) ≡ 2 ^ width = ap unsigned_abs (to_z-of_z w128 p fits ∙ g) in
    let l : x * y % 2 ^ width < 2 ^ width = mod_below (x * y) (2 ^ width) (pow_pos width) in
    rw (h, to_z_pos w128 (x * y % 2 ^ width) (omega arith))
    (unsigned_product kind signed width a b (x * y % 2 ^ width) s (rw (e, f) refl))

pub and_is : (signed : Bool) (width : ℕ) (a b : ℤ) → signed_number signed width (bit_and (residue (2 ^ width) a) (residue (2 ^ width) b)) ≡ on_bits (λ x y. x && y) signed width a b
and_is signed width a b =
    let p = pow_pos width in
    ap (signed_number signed width) (sym (zip_bits-and width (residue (2 ^ width) a) (residue (2 ^ width) b) (residue_below (2 ^ width) a p) (residue_below (2 ^ width) b p)))

pub or_is : (signed : Bool) (width : ℕ) (a b : ℤ) → signed_number signed width (bit_or (residue (2 ^ width) a) (residue (2 ^ width) b)) ≡ on_bits (λ x y. x || y) signed width a b
or_is signed width a b =
    let p = pow_pos width in
    ap (signed_number signed width) (sym (zip_bits-or width (residue (2 ^ width) a) (residue (2 ^ width) b) (residue_below (2 ^ width) a p) (residue_below (2 ^ width) b p)))

pub xor_is : (signed : Bool) (width : ℕ) (a b : ℤ) → signed_number signed width (bit_xor (residue (2 ^ width) a) (residue (2 ^ width) b)) ≡ on_bits xor signed width a b
xor_is signed width a b =
    let p = pow_pos width in
    ap (signed_number signed width) (sym (zip_bits-xor width (residue (2 ^ width) a) (residue (2 ^ width) b) (residue_below (2 ^ width) a p) (residue_below (2 ^ width) b p)))

pub complement_is : (signed : Bool) (width : ℕ) (a : ℤ) → signed_number signed width (2 ^ width - 1 - residue (2 ^ width) a) ≡ complement signed width a
complement_is signed width a =
    let p = pow_pos width in
    ap (signed_number signed width) (sym (map-not_are width (residue (2 ^ width) a) (residue_below (2 ^ width) a p)))

pub remainder_is : (signed : Bool) (width : ℕ) (a b : ℤ) → FitsSigned w128 a → FitsSigned w128 b → is_zero b ≡ false → fits_bits signed width (int_div a b) ≡ true →
    Ok (to_z w128 (of_z w128 (int_rem (to_z w128 (of_z w128 a)) (to_z w128 (of_z w128 b))))) ≡ remainder signed width a b
remainder_is signed width a b f g z t = rw (rem_is w128 a b f g, z, t) refl

pub passed_add : {A : Type 0} (f : ℤ → A) (a b : ℤ) → FitsSigned w128 a → FitsSigned w128 b → FitsSigned w128 (a +ℤ b) →
    f (to_z w128 (of_z w128 (to_z w128 (of_z w128 a) +ℤ to_z w128 (of_z w128 b)))) ≡ f (a +ℤ b)
passed_add f a b x y z = rw (to_z-of_z w128 a x, to_z-of_z w128 b y) (passed f (a +ℤ b) z)

pub passed_sub : {A : Type 0} (f : ℤ → A) (a b : ℤ) → FitsSigned w128 a → FitsSigned w128 b → FitsSigned w128 (a -ℤ b) →
    f (to_z w128 (of_z w128 (to_z w128 (of_z w128 a) -ℤ to_z w128 (of_z w128 b)))) ≡ f (a -ℤ b)
passed_sub f a b x y z = rw (to_z-of_z w128 a x, to_z-of_z w128 b y) (passed f (a -ℤ b) z)

pub passed_div : {A : Type 0} (f : ℤ → A) (a b : ℤ) → FitsSigned w128 a → FitsSigned w128 b → FitsSigned w128 (int_div a b) →
    f (to_z w128 (of_z w128 (int_div (to_z w128 (of_z w128 a)) (to_z w128 (of_z w128 b))))) ≡ f (int_div a b)
passed_div f a b x y z = rw (to_z-of_z w128 a x, to_z-of_z w128 b y) (passed f (int_div a b) z)

pub quotient_is : (signed : Bool) (width : ℕ) (a b : ℤ) → FitsSigned w128 a → FitsSigned w128 b → FitsSigned w128 (int_div a b) → is_zero b ≡ false →
    fits_bits signed width (int_div a b) ≡ true →
    Ok (to_z w128 (of_z w128 (int_div (to_z w128 (of_z w128 a)) (to_z w128 (of_z w128 b))))) ≡ quotient signed width a b
quotient_is signed width a b x y f z t = passed_div {A = Result ℤ Kind} (λ n. Ok n) a b x y f ∙ own
  where
    own : ◌≡◌ {A = Result ℤ Kind} (Ok (int_div a b)) (quotient signed width a b)
    own = rw (z, t) refl

pub passed_neg : {A : Type 0} (f : ℤ → A) (a : ℤ) → FitsSigned w128 a → FitsSigned w128 (pos 0 -ℤ a) →
    f (to_z w128 (of_z w128 (pos 0 -ℤ to_z w128 (of_z w128 a)))) ≡ f (neg_ℤ a)
passed_neg f a x z =
    let e : pos 0 -ℤ a ≡ neg_ℤ a = omega (arith, ints) in
    rw (to_z-of_z w128 a x) (passed f (pos 0 -ℤ a) z ∙ ap f e)

pub not_zero : (b : ℤ) → (of_z w128 b ≡ 0 → ⊥) → is_zero b ≡ false
not_zero (pos zero) h = absurd (h refl)
not_zero (pos (suc n)) h = above n
  where
    above : (n : ℕ) → is_zero (pos (suc n)) ≡ false
    above n = grind (arith, nat_tests)
not_zero (negsuc n) h = refl
