-- Shifts of the numbers of two sets (C11 6.5.7).
use Rattle.std.specs.Prelude.{ℕ, zero, suc, ◌-◌, ◌^◌, Bool, true, false, cond, ◌&&◌, ◌||◌, ℤ, pos, int_le, int_lt, unsigned_abs, Option, Some, None}
use Rattle.c_base.specs.declared.operators.BinOp.{BinOp}
use Rattle.c_base.specs.declared.operators.BinOp.TheVariants.{Shl}
use Rattle.c_base.specs.declared.integer.IntKind.{IntKind}
use Rattle.c_base.specs.declared.integer.Machine.{Machine}
use Rattle.c_base.specs.declared.kind.Kind.TheVariants.{Shift}
use Rattle.c_base.specs.declared.kind.KindSet.{KindSet}
use Rattle.c_base.specs.KindSets.{no_kinds, with_kind}
use Rattle.c_base.specs.Integers.{is_signed, width_of}
use Rattle.ival_core.specs.declared.value.Shape.{Shape}
use Rattle.ival_core.specs.Joined.{joined}
use Rattle.ival_core.specs.Views.{bounds_of}
use Rattle.ival_arith.specs.declared.pieces.Change.TheVariants.{Times}
use Rattle.ival_arith.specs.Pieces.{none, all_changed, clipped}
use Rattle.ival_arith.specs.Values.{residues}
use Rattle.ival_arith.specs.Kinds.{holds_number}
use Rattle.ival_arith.specs.Answers.{typed}
use Rattle.ival_arith.specs.Floors.{floored}

-- what a left shift keeps of the numbers of a set: those that have a result, or of each the bits that stay in the type
unfoldable pub kept_left : Bool → ℕ → ℕ → Shape → Shape
kept_left true width count s = clipped (pos 0) (pos (2 ^ (width - 1 - count) - 1)) s
kept_left false width count s = residues (2 ^ (width - count)) s

-- the results of a shift by one count
unfoldable pub shifted_by : BinOp → Bool → ℕ → ℕ → Shape → Shape
shifted_by Shl signed width count s = all_changed (Times (2 ^ count)) (kept_left signed width count s)
shifted_by op signed width count s = floored (2 ^ count) s

-- the results of shifts by those counts below a number that a set holds
unfoldable pub shifts : BinOp → Bool → ℕ → Shape → Shape → ℕ → Shape
shifts op signed width s t zero = none
shifts op signed width s t (suc count) =
    cond (holds_number t (pos count)) (joined (shifts op signed width s t count) (shifted_by op signed width count s)) (shifts op signed width s t count)

-- some number between these bounds is no count
abbrev pub miscounts : ℕ → ℤ → ℤ → Bool
miscounts width low high = int_lt low (pos 0) || int_le (pos width) high

-- some left shift of a number between these bounds is undefined, where `count` is the greatest count
abbrev pub left_fails : Bool → ℕ → ℤ → ℤ → ℤ → Bool
left_fails signed width low high count = int_lt low (pos 0) || (signed && int_le (pos (2 ^ (width - 1 - unsigned_abs count))) high)

-- some shift of numbers between such bounds is undefined
abbrev pub shift_fails : BinOp → Bool → ℕ → Option (ℤ × ℤ) → Option (ℤ × ℤ) → Bool
shift_fails op signed width None b = false
shift_fails op signed width (Some a) None = false
shift_fails Shl signed width (Some a) (Some b) = miscounts width b.0 b.1 || left_fails signed width a.0 a.1 b.1
shift_fails op signed width (Some a) (Some b) = miscounts width b.0 b.1

-- the kind of undefined shifts, where there are such
abbrev pub shift_kind : Bool → KindSet
shift_kind fails = cond fails (with_kind no_kinds Shift) no_kinds

abbrev pub shift_value : BinOp → IntKind → Machine → Shape → Shape → Shape
shift_value op k m s t =
    shifts op (is_signed k) (width_of k m) (typed (is_signed k) (width_of k m) s) t (width_of k m)

abbrev pub shift_kinds : BinOp → IntKind → Machine → Shape → Shape → KindSet
shift_kinds op k m s t =
    shift_kind (shift_fails op (is_signed k) (width_of k m) (bounds_of (typed (is_signed k) (width_of k m) s)) (bounds_of t))
