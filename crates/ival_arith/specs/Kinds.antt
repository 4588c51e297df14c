-- With which kinds an operator is undefined for numbers of two sets.
use Rattle.std.specs.Prelude.{ℕ, ◌%◌, ◌^◌, ◌==◌, Bool, true, false, cond, ◌&&◌, ◌||◌, ℤ, pos, negsuc, neg_ℤ, ◌≤ℤ◌, ◌+ℤ◌, ◌*ℤ◌, int_le, int_lt, Option, Some, None}
use Rattle.c_base.specs.declared.operators.BinOp.{BinOp}
use Rattle.c_base.specs.declared.operators.BinOp.TheVariants.{Add, Sub, Mul, Div, Rem}
use Rattle.c_base.specs.declared.kind.Kind.TheVariants.{DivisionByZero, SignedOverflow}
use Rattle.c_base.specs.declared.kind.KindSet.{KindSet}
use Rattle.c_base.specs.KindSets.{no_kinds, with_kind}
use Rattle.c_base.specs.Integers.{least_of, greatest_of}
use Rattle.ival_core.specs.declared.value.Shape.{Shape}
use Rattle.ival_core.specs.declared.value.Shape.TheVariants.{Few, Many}
use Rattle.ival_core.specs.Sets.{apart}
use Rattle.ival_core.specs.Views.{bounds_of}
use Rattle.ival_arith.specs.declared.pieces.Change.TheVariants.{Negative}
use Rattle.ival_arith.specs.Pieces.{all_changed, is_among}

-- n is one of the numbers
abbrev pub holds_number : Shape → ℤ → Bool
holds_number (Few v) n = is_among v.items n
holds_number (Many p) n = int_le p.low n && (int_le n p.high && (apart p.low n % p.stride == 0))

abbrev pub holds_some : Option (ℤ × ℤ) → Bool
holds_some None = false
holds_some (Some ends) = true

-- z does not lie from lo to hi
abbrev pub is_out : ℤ → ℤ → ℤ → Bool
is_out lo hi z = int_lt z lo || int_lt hi z

-- some sum of numbers between such bounds does not lie from lo to hi
abbrev pub sums_leave : ℤ → ℤ → Option (ℤ × ℤ) → Option (ℤ × ℤ) → Bool
sums_leave lo hi None b = false
sums_leave lo hi (Some a) None = false
sums_leave lo hi (Some a) (Some b) = int_lt (a.0 +ℤ b.0) lo || int_lt hi (a.1 +ℤ b.1)

-- the same of a product
abbrev pub products_leave : ℤ → ℤ → Option (ℤ × ℤ) → Option (ℤ × ℤ) → Bool
products_leave lo hi None b = false
products_leave lo hi (Some a) None = false
products_leave lo hi (Some a) (Some b) =
    (is_out lo hi (a.0 *ℤ b.0) || is_out lo hi (a.0 *ℤ b.1)) || (is_out lo hi (a.1 *ℤ b.0) || is_out lo hi (a.1 *ℤ b.1))

-- some result is out of the signed type's range
abbrev pub overflows : BinOp → ℕ → Shape → Shape → Bool
overflows Add width s t = sums_leave (least_of true width) (greatest_of true width) (bounds_of s) (bounds_of t)
overflows Sub width s t = sums_leave (least_of true width) (greatest_of true width) (bounds_of s) (bounds_of (all_changed Negative t))
overflows Mul width s t = products_leave (least_of true width) (greatest_of true width) (bounds_of s) (bounds_of t)
overflows Div width s t = holds_number s (least_of true width) && holds_number t (negsuc 0)
overflows Rem width s t = holds_number s (least_of true width) && holds_number t (negsuc 0)
overflows op width s t = false

-- some divisor is 0
abbrev pub divides_by_zero : BinOp → Shape → Shape → Bool
divides_by_zero Div s t = holds_some (bounds_of s) && holds_number t (pos 0)
divides_by_zero Rem s t = holds_some (bounds_of s) && holds_number t (pos 0)
divides_by_zero op s t = false

abbrev pub kind_set : Bool → Bool → KindSet
kind_set zero overflow =
    let none = cond zero (with_kind no_kinds DivisionByZero) no_kinds in
    cond overflow (with_kind none SignedOverflow) none

-- the kinds of an operator on two sets of numbers of a type
abbrev pub kinds : BinOp → Bool → ℕ → Shape → Shape → KindSet
kinds op signed width s t = kind_set (divides_by_zero op s t) (signed && overflows op width s t)

-- a number of a signed type
pub record IsShort (n : ℤ) : Type 0 where
  pub least : neg_ℤ (pos (2 ^ 63)) ≤ℤ n
  pub greatest : n ≤ℤ pos (2 ^ 63)
