-- `&` with a mask (C11 6.5.10).
use Rattle.std.specs.Prelude.{ℕ, ◌+◌, ◌^◌, ◌==◌, Bool, cond, ℤ, pos, negsuc, ◌+ℤ◌, ◌-ℤ◌, Option, Some, None}
use Rattle.c_base.specs.Integers.{least_of, greatest_of}
use Rattle.ival_core.specs.declared.value.Shape.{Shape}
use Rattle.ival_core.specs.Views.{single_of}
use Rattle.ival_arith.specs.declared.pieces.Change.TheVariants.{Times}
use Rattle.ival_arith.specs.Pieces.{all_changed}
use Rattle.ival_arith.specs.Values.{residues}
use Rattle.ival_arith.specs.Floors.{floored}
use Rattle.ival_bits.specs.Spans.{length_of}

-- how many bits a mask of the lowest bits has, if the number is one
abbrev pub mask_of : ℤ → Option ℕ
mask_of (pos n) = cond (2 ^ length_of n == n + 1) (Some (length_of n)) None
mask_of (negsuc n) = None

-- the number of the type with all bits turned
abbrev pub turned : Bool → ℕ → ℤ → ℤ
turned signed width n = (least_of signed width +ℤ greatest_of signed width) -ℤ n

-- the numbers of a set without their lowest bits
unfoldable pub cleared : ℕ → Shape → Shape
cleared bits s = all_changed (Times (2 ^ bits)) (floored (2 ^ bits) s)

-- under a mask of the lowest bits these are left, and under one of all others these are cleared
abbrev pub by_mask : Option ℕ → Option ℕ → Shape → Option Shape
by_mask (Some bits) rest s = Some (residues (2 ^ bits) s)
by_mask None (Some bits) s = Some (cleared bits s)
by_mask None None s = None

abbrev pub by_number : Bool → ℕ → Option ℤ → Shape → Option Shape
by_number signed width None s = None
by_number signed width (Some n) s = by_mask (mask_of n) (mask_of (turned signed width n)) s

-- what is left of the numbers of a set, where the other has one number, and it is a mask
abbrev pub and_by : Bool → ℕ → Shape → Shape → Option Shape
and_by signed width masks s = by_number signed width (single_of masks) s
