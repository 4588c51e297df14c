-- What bounds of operators on bits hold.
use Rattle.std.proofs.Common.{◌≡◌, ℕ, ◌-◌, ◌≤◌, ◌^◌, Bool, true, false, cond, ℤ, pos, Option, Some, None, max, refl, arith}
use Rattle.std.specs.Prelude.{neg_ℤ, ◌&&◌, int_le}
use Rattle.std.specs.Int.{int_min, int_max}
use Rattle.std.proofs.lemmas.Int.{ints, clamps}
use Rattle.std.proofs.lemmas.Nat.{pow_pos}
use Rattle.std.proofs.Math.Nat.{one-dvd}
use lib.Signed.{◌≤ℤ◌}
use Rattle.c_base.specs.declared.operators.BinOp.{BinOp}
use Rattle.c_base.specs.declared.operators.BinOp.TheVariants.{And, Or, Xor}
use Rattle.c_base.specs.Integers.{FitsBits}
use Rattle.ival_core.specs.declared.value.Shape.{Shape}
use Rattle.ival_core.specs.Sets.{apart, IsNumber, Has}
use Rattle.ival_core.proofs.Orders.{le_true}
use Rattle.ival_arith.specs.Pieces.{none, run}
use Rattle.ival_arith.proofs.Bounding.{EndsOf, BoundsAre}
use Rattle.ival_arith.proofs.Fits.{none-exactly}
use Rattle.ival_arith.proofs.Making.{Made, IsWidth}
use Rattle.ival_arith.proofs.Parts.{run-exactly}
use Rattle.ival_arith.proofs.Spreading.{Word, Covers}
use Rattle.ival_arith.proofs.Words.{fits_operand, operand_number, powers}
use Rattle.ival_bits.specs.declared.spans.Ends.{Ends}
use Rattle.ival_bits.specs.Spans.{Within, ends_sized, span, and_span, or_span, spanned, ends_of, bounds_value}
use Rattle.ival_bits.specs.Promises.{IsBitwise}
use Rattle.ival_bits.proofs.Sizes.{Room, room_of, within_between}
use Rattle.ival_bits.proofs.BitBounds.{operated_is, Operands, bits_are, both_natural, and_left, turned, or_both}

-- ---- runs of all numbers between two

covers_run : (P : ℤ → Type 0) (low high : ℤ) → IsNumber low → IsNumber high → low ≤ℤ high → ((n : ℤ) → P n → (low ≤ℤ n) × (n ≤ℤ high)) → Covers P (run low high 1)
covers_run P low high a b l h =
    let x = run-exactly low high 1 a b l (omega arith) in
    record { valid = x.valid; holds = λ n p. let k = h n p in x.holds n (record { above = k.0; below = k.1; meets = one-dvd (apart low n) }) }

span_covers : (P : ℤ → Type 0) (natural : Bool) (bits : ℕ) → bits ≤ 64 → ((n : ℤ) → P n → Within bits n) → ((n : ℤ) → P n → natural ≡ true → pos 0 ≤ℤ n) → Covers P (span natural bits)
span_covers P true bits h f g =
    let p = pow_pos bits in let q = powers bits h in
    covers_run P (pos 0) (pos (2 ^ bits - 1)) (record { least = omega (arith, ints); greatest = omega (arith, ints) }) (record { least = omega (arith, ints); greatest = omega (arith, ints) }) (omega (arith, ints))
    (λ n k. (g n k refl, let w = (f n k).below in omega (arith, ints)))
span_covers P false bits h f g =
    let p = pow_pos bits in let q = powers bits h in
    covers_run P (neg_ℤ (pos (2 ^ bits))) (pos (2 ^ bits - 1)) (record { least = omega (arith, ints); greatest = omega (arith, ints) }) (record { least = omega (arith, ints); greatest = omega (arith, ints) }) (omega (arith, ints))
    (λ n k. ((f n k).above, let w = (f n k).below in omega (arith, ints)))

-- two sets of numbers of a type, their bounds, and how many bits these have
record Spans (op : BinOp) (signed : Bool) (width bits : ℕ) (s t : Shape) (a b : Ends) : Type 0 where
  bitwise : IsBitwise op
  width_is : IsWidth width
  left : Word signed width s
  right : Word signed width t
  first : EndsOf s a.low a.high
  second : EndsOf t b.low b.high
  room : Room signed width bits a.low a.high b.low b.high

abbrev pub Result_in : BinOp → Bool → ℕ → Shape → Shape → ℤ → Type 0
Result_in op signed width s t = Made op signed width (Has s) (Has t)

operands : (op : BinOp) (signed : Bool) (width bits : ℕ) (s t : Shape) (a b : Ends) → Spans op signed width bits s t a b → (n : ℤ) (m : Result_in op signed width s t n) → Operands op signed width bits m.left m.right n
operands op signed width bits s t a b k n m = record {
  bitwise = k.bitwise;
  room = k.width_is;
  small = k.room.type;
  left = k.left.typed.fits m.left m.has_left;
  right = k.right.typed.fits m.right m.has_right;
  first = within_between bits a.low m.left a.high k.room.first k.room.last (k.first.above m.left m.has_left) (k.first.below m.left m.has_left);
  second = within_between bits b.low m.right b.high k.room.low k.room.high (k.second.above m.right m.has_right) (k.second.below m.right m.has_right);
  result = operated_is op signed width m.left m.right n k.bitwise m.is;
}

pub type_number : (signed : Bool) (width : ℕ) (n : ℤ) → IsWidth width → FitsBits signed width n → IsNumber n
type_number signed width n w f = operand_number n (fits_operand signed width n w.some w.room f)

pub up_to : (x y z : ℤ) → x ≤ℤ y → y ≤ℤ z → x ≤ℤ z
up_to x y z h k = omega (arith, ints)

zero_number : IsNumber (pos 0)
zero_number = record { least = omega (arith, ints); greatest = omega (arith, ints) }

-- where no left number is negative
under_left : (signed : Bool) (width bits : ℕ) (s t : Shape) (a b : Ends) → Spans And signed width bits s t a b → pos 0 ≤ℤ a.low → Covers (Result_in And signed width s t) (run (pos 0) a.high 1)
under_left signed width bits s t a b k h =
    covers_run (Result_in And signed width s t) (pos 0) a.high zero_number (type_number signed width a.high k.width_is (k.left.typed.fits a.high k.first.last)) (up_to (pos 0) a.low a.high h (k.first.above a.high k.first.last))
    (λ n m.
    let r = and_left signed width bits m.left m.right n (operands And signed width bits s t a b k n m) (up_to (pos 0) a.low m.left h (k.first.above m.left m.has_left)) in
    (r.0, up_to n m.left a.high r.1 (k.first.below m.left m.has_left)))

under_right : (signed : Bool) (width bits : ℕ) (s t : Shape) (a b : Ends) → Spans And signed width bits s t a b → pos 0 ≤ℤ b.low → Covers (Result_in And signed width s t) (run (pos 0) b.high 1)
under_right signed width bits s t a b k h =
    covers_run (Result_in And signed width s t) (pos 0) b.high zero_number (type_number signed width b.high k.width_is (k.right.typed.fits b.high k.second.last)) (up_to (pos 0) b.low b.high h (k.second.above b.high k.second.last))
    (λ n m.
    let r = and_left signed width bits m.right m.left n (turned signed width bits m.left m.right n (operands And signed width bits s t a b k n m)) (up_to (pos 0) b.low m.right h (k.second.above m.right m.has_right)) in
    (r.0, up_to n m.right b.high r.1 (k.second.below m.right m.has_right)))

under_both : (signed : Bool) (width bits : ℕ) (s t : Shape) (a b : Ends) → Spans And signed width bits s t a b → pos 0 ≤ℤ a.low → pos 0 ≤ℤ b.low → Covers (Result_in And signed width s t) (run (pos 0) (int_min a.high b.high) 1)
under_both signed width bits s t a b k h l =
    let x = type_number signed width a.high k.width_is (k.left.typed.fits a.high k.first.last) in
    let y = type_number signed width b.high k.width_is (k.right.typed.fits b.high k.second.last) in
    let c = x.least in let d = x.greatest in let e = y.least in let f = y.greatest in
    let g = k.first.above a.high k.first.last in let i = k.second.above b.high k.second.last in
    covers_run (Result_in And signed width s t) (pos 0) (int_min a.high b.high) zero_number (record { least = omega (arith, ints, clamps); greatest = omega (arith, ints, clamps) }) (omega (arith, ints, clamps))
    (λ n m.
    let o = operands And signed width bits s t a b k n m in
    let q = and_left signed width bits m.left m.right n o (up_to (pos 0) a.low m.left h (k.first.above m.left m.has_left)) in
    let r = and_left signed width bits m.right m.left n (turned signed width bits m.left m.right n o) (up_to (pos 0) b.low m.right l (k.second.above m.right m.has_right)) in
    (q.0, least n a.high b.high (up_to n m.left a.high q.1 (k.first.below m.left m.has_left)) (up_to n m.right b.high r.1 (k.second.below m.right m.has_right))))
  where
    least : (n x y : ℤ) → n ≤ℤ x → n ≤ℤ y → n ≤ℤ int_min x y
    least n x y h k = omega (arith, ints, clamps)

anywhere : (op : BinOp) (signed : Bool) (width bits : ℕ) (s t : Shape) (a b : Ends) → Spans op signed width bits s t a b → Covers (Result_in op signed width s t) (span false bits)
anywhere op signed width bits s t a b k =
    span_covers (Result_in op signed width s t) false bits k.room.small (λ n m. (bits_are op signed width bits m.left m.right n (operands op signed width bits s t a b k n m)).within) (λ n m e. cc)

and_covers : (signed : Bool) (width bits : ℕ) (s t : Shape) (a b : Ends) → Spans And signed width bits s t a b → Covers (Result_in And signed width s t) (and_span a b bits)
unfolding and_span
and_covers signed width bits s t a b k = by_tests (int_le (pos 0) a.low) (int_le (pos 0) b.low) (λ e. le_true (pos 0) a.low e) (λ e. le_true (pos 0) b.low e)
  where
    by_tests : (x y : Bool) → (x ≡ true → pos 0 ≤ℤ a.low) → (y ≡ true → pos 0 ≤ℤ b.low) →
        Covers (Result_in And signed width s t) (cond x (run (pos 0) (cond y (int_min a.high b.high) a.high) 1) (cond y (run (pos 0) b.high 1) (span false bits)))
    by_tests true true f g = under_both signed width bits s t a b k (f refl) (g refl)
    by_tests true false f g = under_left signed width bits s t a b k (f refl)
    by_tests false true f g = under_right signed width bits s t a b k (g refl)
    by_tests false false f g = anywhere And signed width bits s t a b k

both_are : (x y : Bool) → (x && y) ≡ true → (x ≡ true) × (y ≡ true)
both_are true y e = (refl, e)
both_are false y e = cc

-- where no number is negative
record Naturals (a b : Ends) : Type 0 where
  left : pos 0 ≤ℤ a.low
  right : pos 0 ≤ℤ b.low

naturals : (a b : Ends) → (int_le (pos 0) a.low && int_le (pos 0) b.low) ≡ true → Naturals a b
naturals a b e = let f = both_are (int_le (pos 0) a.low) (int_le (pos 0) b.low) e in record { left = le_true (pos 0) a.low f.0; right = le_true (pos 0) b.low f.1 }

or_above : (signed : Bool) (width bits : ℕ) (s t : Shape) (a b : Ends) → Spans Or signed width bits s t a b → Naturals a b → Covers (Result_in Or signed width s t) (run (int_max a.low b.low) (pos (2 ^ bits - 1)) 1)
or_above signed width bits s t a b k h =
    let p = pow_pos bits in let q = powers bits k.room.small in
    let x = type_number signed width a.low k.width_is (k.left.typed.fits a.low k.first.first) in
    let y = type_number signed width b.low k.width_is (k.right.typed.fits b.low k.second.first) in
    let c = x.least in let d = x.greatest in let e = y.least in let f = y.greatest in
    let g = k.room.first.below in let i = k.room.low.below in
    covers_run (Result_in Or signed width s t) (int_max a.low b.low) (pos (2 ^ bits - 1)) (record { least = omega (arith, ints, clamps); greatest = omega (arith, ints, clamps) }) (record { least = omega (arith, ints); greatest = omega (arith, ints) }) (omega (arith, ints, clamps))
    (λ n m.
    let o = operands Or signed width bits s t a b k n m in
    let l = k.first.above m.left m.has_left in let r = k.second.above m.right m.has_right in
    let u = or_both signed width bits m.left m.right n o (up_to (pos 0) a.low m.left h.left l) (up_to (pos 0) b.low m.right h.right r) in
    (greatest n a.low b.low (up_to a.low m.left n l u.0) (up_to b.low m.right n r u.1), last n bits (bits_are Or signed width bits m.left m.right n o).within))
  where
    greatest : (n x y : ℤ) → x ≤ℤ n → y ≤ℤ n → int_max x y ≤ℤ n
    greatest n x y h k = omega (arith, ints, clamps)

    last : (n : ℤ) (bits : ℕ) → Within bits n → n ≤ℤ pos (2 ^ bits - 1)
    last n bits w = let p = pow_pos bits in let l = w.below in omega (arith, ints)

or_covers : (signed : Bool) (width bits : ℕ) (s t : Shape) (a b : Ends) → Spans Or signed width bits s t a b → Covers (Result_in Or signed width s t) (or_span a b bits)
unfolding or_span
or_covers signed width bits s t a b k = by_test (int_le (pos 0) a.low && int_le (pos 0) b.low) (λ e. naturals a b e)
  where
    by_test : (x : Bool) → (x ≡ true → Naturals a b) → Covers (Result_in Or signed width s t) (cond x (run (int_max a.low b.low) (pos (2 ^ bits - 1)) 1) (span false bits))
    by_test true f = or_above signed width bits s t a b k (f refl)
    by_test false f = anywhere Or signed width bits s t a b k

xor_covers : (signed : Bool) (width bits : ℕ) (s t : Shape) (a b : Ends) → Spans Xor signed width bits s t a b → Covers (Result_in Xor signed width s t) (span (int_le (pos 0) a.low && int_le (pos 0) b.low) bits)
xor_covers signed width bits s t a b k =
    span_covers (Result_in Xor signed width s t) (int_le (pos 0) a.low && int_le (pos 0) b.low) bits k.room.small
    (λ n m. (bits_are Xor signed width bits m.left m.right n (operands Xor signed width bits s t a b k n m)).within)
    (λ n m e.
    let h = naturals a b e in
    both_natural Xor signed width bits m.left m.right n (operands Xor signed width bits s t a b k n m) (up_to (pos 0) a.low m.left h.left (k.first.above m.left m.has_left)) (up_to (pos 0) b.low m.right h.right (k.second.above m.right m.has_right)))

spanned_covers : (op : BinOp) (signed : Bool) (width bits : ℕ) (s t : Shape) (a b : Ends) → Spans op signed width bits s t a b → Covers (Result_in op signed width s t) (spanned op a b bits)
unfolding spanned
spanned_covers And signed width bits s t a b k = and_covers signed width bits s t a b k
spanned_covers Or signed width bits s t a b k = or_covers signed width bits s t a b k
spanned_covers Xor signed width bits s t a b k = xor_covers signed width bits s t a b k
spanned_covers op signed width bits s t a b k = absurd k.bitwise

-- two sets of numbers of a type
pub record Pair (op : BinOp) (signed : Bool) (width : ℕ) (s t : Shape) : Type 0 where
  pub bitwise : IsBitwise op
  pub width_is : IsWidth width
  pub left : Word signed width s
  pub right : Word signed width t

nothing_covers : (P : ℤ → Type 0) → ((n : ℤ) → P n → ⊥) → Covers P none
nothing_covers P h = record { valid = none-exactly.valid; holds = λ n p. absurd (h n p) }

pub bounds_covers : (op : BinOp) (signed : Bool) (width : ℕ) (s t : Shape) (a b : Option (ℤ × ℤ)) → Pair op signed width s t → BoundsAre s a → BoundsAre t b → Covers (Result_in op signed width s t) (bounds_value op a b)
unfolding bounds_value
bounds_covers op signed width s t None b k h l = nothing_covers (Result_in op signed width s t) (λ n m. h m.left m.has_left)
bounds_covers op signed width s t (Some a) None k h l = nothing_covers (Result_in op signed width s t) (λ n m. l m.right m.has_right)
bounds_covers op signed width s t (Some a) (Some b) k h l =
    let fa = k.left.typed.fits a.0 h.first in let fb = k.left.typed.fits a.1 h.last in
    let fc = k.right.typed.fits b.0 l.first in let fd = k.right.typed.fits b.1 l.last in
    spanned_covers op signed width (max (ends_sized (ends_of a)) (ends_sized (ends_of b))) s t (ends_of a) (ends_of b) (record {
      bitwise = k.bitwise;
      width_is = k.width_is;
      left = k.left;
      right = k.right;
      first = h;
      second = l;
      room = room_of signed width (max (ends_sized (ends_of a)) (ends_sized (ends_of b))) a.0 a.1 b.0 b.1 k.width_is.room fa fb fc fd (type_number signed width a.0 k.width_is fa) (type_number signed width a.1 k.width_is fb) (type_number signed width b.0 k.width_is fc) (type_number signed width b.1 k.width_is fd) refl;
    })
