-- The numbers of a type of at most 64 bits.
use Rattle.std.proofs.Common.{◌≡◌, ℕ, suc, ◌-◌, ◌*◌, ◌<◌, ◌≤◌, ◌^◌, Bool, true, false, ℤ, pos, ◌+ℤ◌, Result, Ok, Err, subst, arith}
use Rattle.std.specs.Prelude.{neg_ℤ, IfOk}
use Rattle.std.proofs.lemmas.Nat.{pow_pos}
use Rattle.std.proofs.Math.Nat.{pow-le-pow_right, pow-suc}
use Rattle.std.proofs.lemmas.Int.{ints}
use lib.Signed.{◌≤ℤ◌, ◌<ℤ◌}
use Rattle.c_base.specs.declared.kind.Kind.{Kind}
use Rattle.c_base.specs.declared.operators.BinOp.{BinOp}
use Rattle.c_base.specs.Integers.{FitsBits, least_of, greatest_of}
use Rattle.c_base.specs.Operators.{operated}
use Rattle.c_base.specs.Wide.{IsOperand}
use Rattle.c_base.proofs.Within.{operated_within}
use Rattle.ival_core.specs.Sets.{IsNumber}

pub powers : (width : ℕ) → width ≤ 64 → 2 ^ width ≤ 2 ^ 64
powers width h = pow-le-pow_right (omega arith) h

pub half : (width : ℕ) → 0 < width → 2 ^ width ≡ 2 * 2 ^ (width - 1)
half width h = let e = pow-suc 2 (width - 1) in let f : suc (width - 1) ≡ width = omega arith in subst (λ k. 2 ^ k ≡ 2 * 2 ^ (width - 1)) f (omega (arith, e))

below_half : (k : ℕ) → k ≤ 63 → 2 ^ k ≤ 2 ^ 63
below_half k h = pow-le-pow_right (omega arith) h

-- what is known of the ends of a type
pub record Ends (signed : Bool) (width : ℕ) : Type 0 where
  pub least : neg_ℤ (pos (2 ^ 63)) ≤ℤ least_of signed width
  pub greatest : greatest_of signed width <ℤ pos (2 ^ 64)
  pub below : least_of signed width ≤ℤ pos 0
  pub above : pos 0 ≤ℤ greatest_of signed width
  pub even : (neg_ℤ (greatest_of signed width) +ℤ neg_ℤ (pos 1)) ≤ℤ least_of signed width

pub ends : (signed : Bool) (width : ℕ) → 0 < width → width ≤ 64 → Ends signed width
ends true width h k =
    let p : 2 ^ (width - 1) ≤ 2 ^ 63 = below_half (width - 1) (omega arith) in
    let q = pow_pos (width - 1) in
    record { least = omega (arith, ints); greatest = omega (arith, ints); below = omega (arith, ints); above = omega (arith, ints); even = omega (arith, ints) }
ends false width h k =
    let p = powers width k in
    let q = pow_pos width in
    record { least = omega (arith, ints); greatest = omega (arith, ints); below = omega (arith, ints); above = omega (arith, ints); even = omega (arith, ints) }

pub fits_operand : (signed : Bool) (width : ℕ) (n : ℤ) → 0 < width → width ≤ 64 → FitsBits signed width n → IsOperand n
fits_operand signed width n h k f =
    let e = ends signed width h k in
    let a = e.least in let b = e.greatest in let c = f.least in let d = f.greatest in
    record { least = omega (arith, ints); greatest = omega (arith, ints) }

pub operand_number : (n : ℤ) → IsOperand n → IsNumber n
operand_number n h = let a = h.least in let b = h.greatest in record { least = omega (arith, ints); greatest = omega (arith, ints) }

pub operated_number : (op : BinOp) (signed : Bool) (width : ℕ) (a b : ℤ) (r : Result ℤ Kind) → 0 < width → width ≤ 64 → FitsBits signed width a → r ≡ operated op signed width a b → IfOk r IsNumber
operated_number op signed width a b (Ok n) h k f e = operand_number n (operated_within op signed width a b (Ok n) k (fits_operand signed width a h k f) e)
operated_number op signed width a b (Err kind) h k f e = tt
