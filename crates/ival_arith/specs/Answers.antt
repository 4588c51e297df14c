-- The answers of the operators of C on two sets of numbers.
use Rattle.std.specs.Prelude.{ℕ, Bool, true, false, ◌^◌}
use Rattle.c_base.specs.declared.operators.BinOp.{BinOp}
use Rattle.c_base.specs.declared.integer.IntKind.{IntKind}
use Rattle.c_base.specs.declared.integer.Machine.{Machine}
use Rattle.c_base.specs.declared.kind.KindSet.{KindSet}
use Rattle.c_base.specs.Integers.{is_signed, width_of, least_of, greatest_of}
use Rattle.ival_core.specs.declared.value.Shape.{Shape}
use Rattle.ival_arith.specs.declared.pieces.Change.TheVariants.{Negative}
use Rattle.ival_arith.specs.Pieces.{all_changed, clipped}
use Rattle.ival_arith.specs.Values.{residues, value}
use Rattle.ival_arith.specs.Kinds.{holds_number, kind_set, kinds}

-- the numbers of a set that a type can hold
abbrev pub typed : Bool → ℕ → Shape → Shape
typed signed width s = clipped (least_of signed width) (greatest_of signed width) s

abbrev pub binary_value : BinOp → IntKind → Machine → Shape → Shape → Shape
binary_value op k m s t = value op (is_signed k) (width_of k m) (typed (is_signed k) (width_of k m) s) (typed (is_signed k) (width_of k m) t)

abbrev pub binary_kinds : BinOp → IntKind → Machine → Shape → Shape → KindSet
binary_kinds op k m s t = kinds op (is_signed k) (width_of k m) (typed (is_signed k) (width_of k m) s) (typed (is_signed k) (width_of k m) t)

-- the negated numbers of a type: those that it can hold, or all of them reduced
unfoldable pub negated : Bool → ℕ → Shape → Shape
negated true width s = typed true width (all_changed Negative s)
negated false width s = residues (2 ^ width) (all_changed Negative s)

abbrev pub negated_kinds : Bool → ℕ → Shape → KindSet
negated_kinds true width s = kind_set false (holds_number s (least_of true width))
negated_kinds false width s = kind_set false false

abbrev pub negate_value : IntKind → Machine → Shape → Shape
negate_value k m s = negated (is_signed k) (width_of k m) (typed (is_signed k) (width_of k m) s)

abbrev pub negate_kinds : IntKind → Machine → Shape → KindSet
negate_kinds k m s = negated_kinds (is_signed k) (width_of k m) (typed (is_signed k) (width_of k m) s)
