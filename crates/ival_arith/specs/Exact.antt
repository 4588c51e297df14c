-- Results that neither wrap nor leave the numbers that an `Ival` may hold.
use Rattle.std.specs.Prelude.{◌^◌, Bool, true, cond, ◌&&◌, ℤ, pos, neg_ℤ, ◌+ℤ◌, int_le, Option, Some, None}
use Rattle.ival_core.specs.declared.value.Shape.{Shape}
use Rattle.ival_core.specs.declared.value.Ival.{Ival}
use Rattle.ival_core.specs.Views.{bounds_of}
use Rattle.ival_arith.specs.declared.pieces.Change.TheVariants.{Negative}
use Rattle.ival_arith.specs.Pieces.{all_changed}
use Rattle.ival_arith.specs.Sums.{sums}

abbrev pub shape_option : Option Ival → Option Shape
shape_option None = None
shape_option (Some v) = Some v.shape

-- all sums of numbers between such bounds are numbers that an `Ival` may hold
abbrev pub sums_stay : Option (ℤ × ℤ) → Option (ℤ × ℤ) → Bool
sums_stay None b = true
sums_stay (Some a) None = true
sums_stay (Some a) (Some b) = int_le (neg_ℤ (pos (2 ^ 120))) (a.0 +ℤ b.0) && int_le (a.1 +ℤ b.1) (pos (2 ^ 120))

unfoldable pub exact_sum : Shape → Shape → Option Shape
exact_sum s t = cond (sums_stay (bounds_of s) (bounds_of t)) (Some (sums (neg_ℤ (pos (2 ^ 120))) (pos (2 ^ 120)) s t)) None

abbrev pub exact_difference : Shape → Shape → Option Shape
exact_difference s t = exact_sum s (all_changed Negative t)
