-- The results of operators stay from -2^64 to 2^64 - 1 where the operands do.
use Rattle.std.proofs.Common.{◌≡◌, ℕ, zero, suc, ◌-◌, ◌^◌, ◌<◌, ◌≤◌, Bool, true, false, cond, List, [], ◌∷◌, length, ℤ, pos, negsuc, ◌+ℤ◌, ◌-ℤ◌, Ok, Err, Result, refl, sym, ap, subst, ◌∙◌, arith}
use Rattle.std.specs.Prelude.{◌*ℤ◌, ◌&&◌, ◌||◌, not, nat_lt, int_div, int_rem, int_lt, int_le, unsigned_abs, IfOk}
use Rattle.std.proofs.lemmas.Nat.{pow_pos}
use Rattle.std.proofs.Math.Nat.{pow-le-pow_right}
use Rattle.std.proofs.lemmas.Int.{ints}
use Rattle.std.proofs.lemmas.Bool.Decides.{nat_tests}
use Rattle.std.proofs.Math.Nat.{pow-suc, div-le_self}
use lib.Signed.{mag, mag_rem}
use Rattle.c_base.proofs.Bits.{length-bits_from}
use Rattle.c_base.specs.declared.kind.Kind.{Kind}
use Rattle.c_base.specs.declared.kind.Kind.TheVariants.{DivisionByZero, SignedOverflow, Shift}
use Rattle.c_base.specs.declared.operators.BinOp.{BinOp}
use Rattle.c_base.specs.declared.operators.BinOp.TheVariants.{Add, Sub, Mul, Div, Rem, And, Or, Xor, Shl, Shr, Lt, Le, Gt, Ge, Eq, Ne}
use Rattle.c_base.specs.Integers.{residue, fits_bits, signed_number, bits_of, number_of_bits}
use Rattle.c_base.specs.Operators.{operated, in_type, on_bits, xor, zip_bits, is_zero, is_count, floor, truth_number}
use Rattle.c_base.proofs.Residues.{residue_below}
use Rattle.c_base.specs.Wide.{IsOperand}

-- what is 2^64 or more away from 0 is at least 2^64 away
record Near (n : ℤ) : Type 0 where
  near : mag n < 2 ^ 64

near : (n : ℤ) → Near n → IsOperand n
near (pos n) h = let k = h.near in record { least = omega (arith, ints); greatest = omega (arith, ints) }
near (negsuc n) h = let k = h.near in record { least = omega (arith, ints); greatest = omega (arith, ints) }

is_near : (n : ℤ) → IsOperand n → Near n
is_near (pos n) h = let k = h.greatest in record { near = omega (arith, ints) }
is_near (negsuc n) h = let k = h.least in record { near = omega (arith, ints) }

powers : (width : ℕ) → width ≤ 64 → 2 ^ width ≤ 2 ^ 64
powers width h = pow-le-pow_right (omega arith) h

-- a number below 2 to the width
pattern_near : (width n : ℕ) → width ≤ 64 → n < 2 ^ width → n < 2 ^ 64
pattern_near width n h l = omega (arith, powers width h)

fits_near : (signed : Bool) (width : ℕ) (n : ℤ) → width ≤ 64 → fits_bits signed width n ≡ true → Near n
fits_near true width (pos n) h t = record { near = pattern_near (width - 1) n (omega arith) (above width n (pow_pos (width - 1)) t) }
  where
    above : (width n : ℕ) → 0 < 2 ^ (width - 1) → fits_bits true width (pos n) ≡ true → n < 2 ^ (width - 1)
    above width n p t = let k : n ≤ 2 ^ (width - 1) - 1 = grind (arith, nat_tests) in omega arith
fits_near true width (negsuc n) h t = record { near = pattern_near (width - 1) n (omega arith) (below width n (pow_pos (width - 1)) t) }
  where
    below : (width n : ℕ) → 0 < 2 ^ (width - 1) → fits_bits true width (negsuc n) ≡ true → n < 2 ^ (width - 1)
    below width n p t = let k : n ≤ 2 ^ (width - 1) - 1 = grind (arith, nat_tests) in omega arith
fits_near false width (pos n) h t = record { near = pattern_near width n h (above width n (pow_pos width) t) }
  where
    above : (width n : ℕ) → 0 < 2 ^ width → fits_bits false width (pos n) ≡ true → n < 2 ^ width
    above width n p t = let k : n ≤ 2 ^ width - 1 = grind (arith, nat_tests) in omega arith
fits_near false width (negsuc n) h t = cc

signed_near : (signed : Bool) (width n : ℕ) → width ≤ 64 → n < 2 ^ width → Near (signed_number signed width n)
signed_near false width n h l = record { near = pattern_near width n h l }
signed_near true width n h l = by_half width n h l (nat_lt n (2 ^ (width - 1)))
  where
    by_half : (width n : ℕ) → width ≤ 64 → n < 2 ^ width → (t : Bool) → Near (cond t (pos n) (negsuc (2 ^ width - suc n)))
    by_half width n h l true = record { near = pattern_near width n h l }
    by_half width n h l false = record { near = pattern_near width (2 ^ width - suc n) h (omega arith) }

-- a result, if there is one, is near
abbrev IsNear : Result ℤ Kind → Type 0
IsNear r = IfOk r Near

in_type_near : (kind : Kind) (signed : Bool) (width : ℕ) (n : ℤ) → width ≤ 64 → IsNear (in_type kind signed width n)
in_type_near kind signed width n h = by_fit kind signed width n h (fits_bits signed width n) (λ t. fits_near signed width n h t)
  where
    by_fit : (kind : Kind) (signed : Bool) (width : ℕ) (n : ℤ) → width ≤ 64 → (t : Bool) → (t ≡ true → Near n) →
        IsNear (cond t (Ok n) (cond signed (Err kind) (Ok (pos (residue (2 ^ width) n)))))
    by_fit kind signed width n h true f = f refl
    by_fit kind true width n h false f = tt
    by_fit kind false width n h false f = record { near = pattern_near width (residue (2 ^ width) n) h (residue_below (2 ^ width) n (pow_pos width)) }

either : (b t : Bool) (n m : ℤ) (k l : Kind) → (t ≡ true → Near n) → IsNear (cond b (Err k) (cond t (Ok n) (Err l)))
either true t n m k l f = tt
either false true n m k l f = f refl
either false false n m k l f = tt

number_below : (k : ℕ) (bits : List Bool) → length bits ≡ k → number_of_bits bits < 2 ^ k
unfolding number_of_bits
number_below k [] e = omega (arith, pow_pos k)
number_below zero (b ∷ bs) e = absurd (omega arith)
number_below (suc k) (b ∷ bs) e =
    let i : number_of_bits bs < 2 ^ k = number_below k bs (omega arith) in
    let w = pow-suc 2 k in
    let c : cond b 1 0 ≤ 1 = elim b as (λ b. cond b 1 0 ≤ 1) [ true ↦ omega arith | false ↦ omega arith ] in
    omega arith

length-zip_bits : (f : Bool → Bool → Bool) (xs ys : List Bool) → length xs ≡ length ys → length (zip_bits f xs ys) ≡ length xs
length-zip_bits f [] ys e = refl
length-zip_bits f (x ∷ xs) [] e = absurd (omega arith)
length-zip_bits f (x ∷ xs) (y ∷ ys) e = ap suc (length-zip_bits f xs ys (omega arith))

on_bits_near : (f : Bool → Bool → Bool) (signed : Bool) (width : ℕ) (a b : ℤ) → width ≤ 64 → Near (on_bits f signed width a b)
on_bits_near f signed width a b h =
    let x = length-bits_from (residue (2 ^ width) a) width in
    let y = length-bits_from (residue (2 ^ width) b) width in
    signed_near signed width (number_of_bits (zip_bits f (bits_of width a) (bits_of width b))) h
    (number_below width (zip_bits f (bits_of width a) (bits_of width b)) (length-zip_bits f (bits_of width a) (bits_of width b) (x ∙ sym y) ∙ x))

truth_near : (t : Bool) → Near (truth_number t)
truth_near true = record { near = omega arith }
truth_near false = record { near = omega arith }

rem_near : (a b : ℤ) → Near a → Near (int_rem a b)
rem_near a b h = record { near = omega (arith, mag_rem a b, h.near) }

floor_near : (a : ℤ) (d : ℕ) → Near a → Near (floor a d)
floor_near (pos n) d h = record { near = omega (arith, div-le_self n d, h.near) }
floor_near (negsuc n) d h = record { near = omega (arith, div-le_self n d, h.near) }

counted : (t : Bool) (r : Result ℤ Kind) (k : Kind) → IsNear r → IsNear (cond t r (Err k))
counted true r k h = h
counted false r k h = tt

operated_near : (op : BinOp) (signed : Bool) (width : ℕ) (a b : ℤ) → width ≤ 64 → Near a → IsNear (operated op signed width a b)
operated_near Add signed width a b h n = in_type_near SignedOverflow signed width (a +ℤ b) h
operated_near Sub signed width a b h n = in_type_near SignedOverflow signed width (a -ℤ b) h
operated_near Mul signed width a b h n = in_type_near SignedOverflow signed width (a *ℤ b) h
operated_near Div signed width a b h n =
    either (is_zero b) (fits_bits signed width (int_div a b)) (int_div a b) (pos 0) DivisionByZero SignedOverflow (λ t. fits_near signed width (int_div a b) h t)
operated_near Rem signed width a b h n =
    either (is_zero b) (fits_bits signed width (int_div a b)) (int_rem a b) (pos 0) DivisionByZero SignedOverflow (λ t. rem_near a b n)
operated_near And signed width a b h n = on_bits_near (λ x y. x && y) signed width a b h
operated_near Or signed width a b h n = on_bits_near (λ x y. x || y) signed width a b h
operated_near Xor signed width a b h n = on_bits_near xor signed width a b h
operated_near Shl signed width a b h n =
    counted (is_count width b && int_le (pos 0) a) (in_type Shift signed width (a *ℤ pos (2 ^ unsigned_abs b))) Shift (in_type_near Shift signed width (a *ℤ pos (2 ^ unsigned_abs b)) h)
operated_near Shr signed width a b h n = counted (is_count width b) (Ok (floor a (2 ^ unsigned_abs b))) Shift (floor_near a (2 ^ unsigned_abs b) n)
operated_near Lt signed width a b h n = truth_near (int_lt a b)
operated_near Le signed width a b h n = truth_near (int_le a b)
operated_near Gt signed width a b h n = truth_near (int_lt b a)
operated_near Ge signed width a b h n = truth_near (int_le b a)
operated_near Eq signed width a b h n = truth_near (int_le a b && int_le b a)
operated_near Ne signed width a b h n = truth_near (not (int_le a b && int_le b a))

pub operated_within : (op : BinOp) (signed : Bool) (width : ℕ) (a b : ℤ) (r : Result ℤ Kind) → width ≤ 64 → IsOperand a → r ≡ operated op signed width a b → IfOk r IsOperand
operated_within op signed width a b (Ok n) h i e = near n (subst (λ r. IsNear r) (sym e) (operated_near op signed width a b h (is_near a i)))
operated_within op signed width a b (Err k) h i e = tt
