-- Bounds of what operators on bits make of numbers between bounds.
use Rattle.std.specs.Prelude.{ℕ, ◌-◌, ◌^◌, Bool, false, cond, ◌&&◌, ℤ, pos, negsuc, neg_ℤ, ◌≤ℤ◌, ◌<ℤ◌, int_le, max, Option, Some, None}
use Rattle.std.specs.Int.{w128, leading_zeros, int_min, int_max}
use Rattle.c_base.specs.declared.operators.BinOp.{BinOp}
use Rattle.c_base.specs.declared.operators.BinOp.TheVariants.{And, Or}
use Rattle.ival_core.specs.declared.value.Shape.{Shape}
use Rattle.ival_core.specs.Sets.{IsNumber}
use Rattle.ival_arith.specs.Pieces.{none, run}
use Rattle.ival_bits.specs.declared.spans.Ends.{Ends}

-- the bounds of a set
pub record IsEnds (e : Ends) : Type 0 where
  pub least : IsNumber e.low
  pub greatest : IsNumber e.high
  pub order : e.low ≤ℤ e.high

-- n has at most so many bits beside those that repeat its sign
pub record Within (bits : ℕ) (n : ℤ) : Type 0 where
  pub above : neg_ℤ (pos (2 ^ bits)) ≤ℤ n
  pub below : n <ℤ pos (2 ^ bits)

-- how many bits n has
abbrev pub length_of : ℕ → ℕ
length_of n = 128 - leading_zeros w128 n

-- how many bits a number has beside those that repeat its sign
abbrev pub sized : ℤ → ℕ
sized (pos n) = length_of n
sized (negsuc n) = length_of n

abbrev pub ends_sized : Ends → ℕ
ends_sized e = max (sized e.low) (sized e.high)

-- all numbers of so many bits, without the negative ones where there are none
abbrev pub span : Bool → ℕ → Shape
span natural bits = run (cond natural (pos 0) (neg_ℤ (pos (2 ^ bits)))) (pos (2 ^ bits - 1)) 1

-- where no number of one set is negative, no result is, and none is above that number
unfoldable pub and_span : Ends → Ends → ℕ → Shape
and_span a b bits =
    cond (int_le (pos 0) a.low) (run (pos 0) (cond (int_le (pos 0) b.low) (int_min a.high b.high) a.high) 1)
    (cond (int_le (pos 0) b.low) (run (pos 0) b.high 1) (span false bits))

-- where no number is negative, no result is below one of its numbers
unfoldable pub or_span : Ends → Ends → ℕ → Shape
or_span a b bits = cond (int_le (pos 0) a.low && int_le (pos 0) b.low) (run (int_max a.low b.low) (pos (2 ^ bits - 1)) 1) (span false bits)

-- no result has more bits than the numbers that it is made of
unfoldable pub spanned : BinOp → Ends → Ends → ℕ → Shape
spanned And a b bits = and_span a b bits
spanned Or a b bits = or_span a b bits
spanned op a b bits = span (int_le (pos 0) a.low && int_le (pos 0) b.low) bits

abbrev pub ends_of : ℤ × ℤ → Ends
ends_of b = record { low = b.0; high = b.1 }

unfoldable pub bounds_value : BinOp → Option (ℤ × ℤ) → Option (ℤ × ℤ) → Shape
bounds_value op None b = none
bounds_value op (Some a) None = none
bounds_value op (Some a) (Some b) = spanned op (ends_of a) (ends_of b) (max (ends_sized (ends_of a)) (ends_sized (ends_of b)))
