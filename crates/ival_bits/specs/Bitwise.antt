-- Operators on the bits of the numbers of two sets (C11 6.5.10 to 6.5.12).
use Rattle.std.specs.Prelude.{ℕ, ◌^◌, Bool, false, cond, ◌||◌, ℤ, pos, neg_ℤ, int_lt, Option, Some, None}
use Rattle.c_base.specs.declared.operators.BinOp.{BinOp}
use Rattle.c_base.specs.declared.operators.BinOp.TheVariants.{And}
use Rattle.c_base.specs.declared.integer.IntKind.{IntKind}
use Rattle.c_base.specs.declared.integer.Machine.{Machine}
use Rattle.c_base.specs.Integers.{is_signed, width_of}
use Rattle.c_base.specs.Operators.{is_zero}
use Rattle.ival_core.specs.declared.value.Shape.{Shape}
use Rattle.ival_core.specs.declared.value.Shape.TheVariants.{Few, Many}
use Rattle.ival_core.specs.Views.{bounds_of, single_of}
use Rattle.ival_arith.specs.Pieces.{gathered}
use Rattle.ival_arith.specs.Sums.{sums}
use Rattle.ival_arith.specs.Values.{rows, residues}
use Rattle.ival_arith.specs.Answers.{typed}
use Rattle.ival_bits.specs.Spans.{sized, bounds_value}
use Rattle.ival_bits.specs.Masks.{and_by}

abbrev pub or_else : Option Shape → Shape → Shape
or_else None rest = rest
or_else (Some s) rest = s

-- how many bits the numbers between such bounds have, if none is negative
abbrev pub low_bits : Option (ℤ × ℤ) → Option ℕ
low_bits None = None
low_bits (Some b) = cond (int_lt b.0 (pos 0)) None (Some (sized b.1))

abbrev pub is_only_zero : Option ℤ → Bool
is_only_zero None = false
is_only_zero (Some n) = is_zero n

-- no number of s has one of these bits
abbrev pub is_clear : Option ℕ → Shape → Bool
is_clear None s = false
is_clear (Some bits) s = is_only_zero (single_of (residues (2 ^ bits) s))

-- the numbers of the sets have no bit in common, since those of one end below those of the other
abbrev pub is_apart : Shape → Shape → Bool
is_apart s t = is_clear (low_bits (bounds_of t)) s || is_clear (low_bits (bounds_of s)) t

unfoldable pub long_and : Bool → ℕ → Shape → Shape → Shape
long_and signed width s t = or_else (and_by signed width t s) (or_else (and_by signed width s t) (bounds_value And (bounds_of s) (bounds_of t)))

-- the bits of numbers without common bits stand side by side, as those of their sum
unfoldable pub long_or : BinOp → Shape → Shape → Shape
long_or op s t = cond (is_apart s t) (sums (neg_ℤ (pos (2 ^ 120))) (pos (2 ^ 120)) s t) (bounds_value op (bounds_of s) (bounds_of t))

-- where one of the sets is long
unfoldable pub long_bits : BinOp → Bool → ℕ → Shape → Shape → Shape
long_bits And signed width s t = long_and signed width s t
long_bits op signed width s t = long_or op s t

-- what an operator gives on two sets of numbers of a type
unfoldable pub bits_value : BinOp → Bool → ℕ → Shape → Shape → Shape
bits_value op signed width (Few v) (Few u) = gathered (rows op signed width v.items u.items)
bits_value op signed width (Few v) (Many q) = long_bits op signed width (Few v) (Many q)
bits_value op signed width (Many p) t = long_bits op signed width (Many p) t

abbrev pub bitwise_value : BinOp → IntKind → Machine → Shape → Shape → Shape
bitwise_value op k m s t =
    bits_value op (is_signed k) (width_of k m) (typed (is_signed k) (width_of k m) s) (typed (is_signed k) (width_of k m) t)
