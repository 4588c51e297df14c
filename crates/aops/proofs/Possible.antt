-- The kinds that operators on numbers of a type may have.
use Rattle.std.proofs.Common.{◌≡◌, ℕ, ◌/◌, ◌≤◌, Bool, true, false, cond, ◌&&◌, ℤ, pos, negsuc, refl, sym, subst, arith}
use Rattle.std.specs.Prelude.{Result, Ok, Err, int_le, int_div, int_rem, unsigned_abs, ◌*ℤ◌, ◌+ℤ◌, ◌-ℤ◌, ◌^◌}
use Rattle.std.proofs.Math.Nat.{div-le_self}
use Rattle.std.proofs.lemmas.Bool.{and_from}
use Rattle.std.proofs.lemmas.Int.{ints}
use lib.Signed.{◌≤ℤ◌}
use Rattle.c_base.specs.declared.operators.BinOp.{BinOp}
use Rattle.c_base.specs.declared.operators.BinOp.TheVariants.{Add, Sub, Mul, Div, Rem, And, Or, Xor, Shl, Shr, Lt, Le, Gt, Ge, Eq, Ne}
use Rattle.c_base.specs.declared.integer.IntKind.{IntKind}
use Rattle.c_base.specs.declared.integer.Machine.{Machine}
use Rattle.c_base.specs.declared.kind.Kind.{Kind}
use Rattle.c_base.specs.declared.kind.Kind.TheVariants.{DivisionByZero, SignedOverflow, Shift}
use Rattle.c_base.specs.KindSets.{allowed, no_kinds, with_kind}
use Rattle.c_base.specs.Integers.{is_signed, width_of, fits_bits, FitsBits, FitsKind, least_of, greatest_of, residue}
use Rattle.c_base.specs.Operators.{applied, in_type, is_zero, is_count, floor, OnRight}
use Rattle.ival_core.proofs.Orders.{true_le}
use Rattle.ival_arith.specs.Kinds.{kind_set}
use Rattle.aops.specs.Integers.{possible_kinds}

-- a result of a type with a sign alone is out of its range
record Outside (kind : Kind) (signed : Bool) (found : Kind) : Type 0 where
  signed_type : signed ≡ true
  is : kind ≡ found

out_of_type : (kind : Kind) (signed : Bool) (width : ℕ) (n : ℤ) (found : Kind) → in_type kind signed width n ≡ Err found → Outside kind signed found
out_of_type kind signed width n found e = by_tests (fits_bits signed width n) signed refl e
  where
    same : {k : Kind} → ◌≡◌ {A = Result ℤ Kind} (Err k) (Err found) → k ≡ found
    same h = cc

    by_tests : (f s : Bool) → s ≡ signed → cond f (Ok n) (cond s (Err kind) (Ok (pos (residue (2 ^ width) n)))) ≡ Err found → Outside kind signed found
    by_tests true s d h = cc
    by_tests false true d h = record { signed_type = sym d; is = same h }
    by_tests false false d h = cc

overflow_allowed : (zero signed : Bool) (found : Kind) → Outside SignedOverflow signed found → allowed (kind_set zero signed) found ≡ true
overflow_allowed zero signed found o = let e = o.signed_type in subst (λ k. allowed (kind_set zero signed) k ≡ true) o.is (subst (λ s. allowed (kind_set zero s) SignedOverflow ≡ true) (sym e) (at zero))
  where
    at : (z : Bool) → allowed (kind_set z true) SignedOverflow ≡ true
    at true = refl
    at false = refl

zero_allowed : (signed : Bool) → allowed (kind_set true signed) DivisionByZero ≡ true
zero_allowed true = refl
zero_allowed false = refl

-- quotients of numbers without a sign stay in the type
quotient_fits : (width : ℕ) (a b : ℤ) → FitsBits false width a → FitsBits false width b → fits_bits false width (int_div a b) ≡ true
quotient_fits width (pos n) (pos d) f g =
    let l = div-le_self n d in
    let h = f.greatest in
    and_from (int_le (least_of false width) (pos (n / d))) (int_le (pos (n / d)) (greatest_of false width))
    (true_le (least_of false width) (pos (n / d)) (above (n / d))) (true_le (pos (n / d)) (greatest_of false width) (below n (n / d) (greatest_of false width) l h))
  where
    above : (q : ℕ) → pos 0 ≤ℤ pos q
    above q = omega (arith, ints)

    below : (n q : ℕ) (z : ℤ) → q ≤ n → pos n ≤ℤ z → pos q ≤ℤ z
    below n q z h k = omega (arith, ints)
quotient_fits width (pos n) (negsuc d) f g = let h = g.least in absurd (none d h)
  where
    none : (d : ℕ) → pos 0 ≤ℤ negsuc d → ⊥
    none d h = omega (arith, ints)
quotient_fits width (negsuc n) b f g = let h = f.least in absurd (none n h)
  where
    none : (d : ℕ) → pos 0 ≤ℤ negsuc d → ⊥
    none d h = omega (arith, ints)

divided : (signed : Bool) (width : ℕ) (a b r : ℤ) (found : Kind) → FitsBits signed width a → FitsBits signed width b →
    cond (is_zero b) (Err DivisionByZero) (cond (fits_bits signed width (int_div a b)) (Ok r) (Err SignedOverflow)) ≡ Err found → allowed (kind_set true signed) found ≡ true
divided signed width a b r found f g e = by_zero (is_zero b) e
  where
    same : {k : Kind} → ◌≡◌ {A = Result ℤ Kind} (Err k) (Err found) → k ≡ found
    same h = cc

    by_sign : (s : Bool) → s ≡ signed → fits_bits signed width (int_div a b) ≡ false → SignedOverflow ≡ found → allowed (kind_set true signed) found ≡ true
    by_sign true d h k = overflow_allowed true signed found (record { signed_type = sym d; is = k })
    by_sign false d h k =
        let q : fits_bits false width (int_div a b) ≡ true = quotient_fits width a b (subst (λ t. FitsBits t width a) (sym d) f) (subst (λ t. FitsBits t width b) (sym d) g) in
        let p : fits_bits false width (int_div a b) ≡ false = subst (λ t. fits_bits t width (int_div a b) ≡ false) (sym d) h in
        absurd (no (fits_bits false width (int_div a b)) q p)
      where
        no : (t : Bool) → t ≡ true → t ≡ false → ⊥
        no true q p = cc
        no false q p = cc

    by_fit : (t : Bool) → fits_bits signed width (int_div a b) ≡ t → cond t (Ok r) (Err SignedOverflow) ≡ Err found → allowed (kind_set true signed) found ≡ true
    by_fit true h k = cc
    by_fit false h k = by_sign signed refl h (same k)

    by_zero : (z : Bool) → cond z (Err DivisionByZero) (cond (fits_bits signed width (int_div a b)) (Ok r) (Err SignedOverflow)) ≡ Err found → allowed (kind_set true signed) found ≡ true
    by_zero true h = subst (λ k. allowed (kind_set true signed) k ≡ true) (same h) (zero_allowed signed)
    by_zero false h = by_fit (fits_bits signed width (int_div a b)) refl h

shift_allowed : (found : Kind) → Shift ≡ found → allowed (with_kind no_kinds Shift) found ≡ true
shift_allowed found e = subst (λ k. allowed (with_kind no_kinds Shift) k ≡ true) e refl

left_kind : (c : Bool) (signed : Bool) (width : ℕ) (n : ℤ) (found : Kind) → cond c (in_type Shift signed width n) (Err Shift) ≡ Err found → Shift ≡ found
left_kind true signed width n found e = (out_of_type Shift signed width n found e).is
left_kind false signed width n found e = same e
  where
    same : {k : Kind} → ◌≡◌ {A = Result ℤ Kind} (Err k) (Err found) → k ≡ found
    same h = cc

right_kind : (c : Bool) (n : ℤ) (found : Kind) → ◌≡◌ {A = Result ℤ Kind} (cond c (Ok n) (Err Shift)) (Err found) → Shift ≡ found
right_kind true n found e = cc
right_kind false n found e = same e
  where
    same : {k : Kind} → ◌≡◌ {A = Result ℤ Kind} (Err k) (Err found) → k ≡ found
    same h = cc

-- what is undefined for numbers of the type has one of these kinds
pub possible : (op : BinOp) (k : IntKind) (m : Machine) (x y : ℤ) (found : Kind) → FitsKind k m x → OnRight op (FitsKind k m) y → applied op k m x y ≡ Err found → allowed (possible_kinds op (is_signed k)) found ≡ true
possible Add k m x y found f g e = overflow_allowed false (is_signed k) found (out_of_type SignedOverflow (is_signed k) (width_of k m) (x +ℤ y) found e)
possible Sub k m x y found f g e = overflow_allowed false (is_signed k) found (out_of_type SignedOverflow (is_signed k) (width_of k m) (x -ℤ y) found e)
possible Mul k m x y found f g e = overflow_allowed false (is_signed k) found (out_of_type SignedOverflow (is_signed k) (width_of k m) (x *ℤ y) found e)
possible Div k m x y found f g e = divided (is_signed k) (width_of k m) x y (int_div x y) found f g e
possible Rem k m x y found f g e = divided (is_signed k) (width_of k m) x y (int_rem x y) found f g e
possible And k m x y found f g e = cc
possible Or k m x y found f g e = cc
possible Xor k m x y found f g e = cc
possible Shl k m x y found f g e = shift_allowed found (left_kind (is_count (width_of k m) y && int_le (pos 0) x) (is_signed k) (width_of k m) (x *ℤ pos (2 ^ unsigned_abs y)) found e)
possible Shr k m x y found f g e = shift_allowed found (right_kind (is_count (width_of k m) y) (floor x (2 ^ unsigned_abs y)) found e)
possible Lt k m x y found f g e = cc
possible Le k m x y found f g e = cc
possible Gt k m x y found f g e = cc
possible Ge k m x y found f g e = cc
possible Eq k m x y found f g e = cc
possible Ne k m x y found f g e = cc
