-- C's operators on values of integer types, as plain functions.
use Rattle.std.specs.Prelude.{ℕ, Bool, true, false, cond, List, [], Err}
use Rattle.c_base.specs.declared.operators.BinOp.{BinOp}
use Rattle.c_base.specs.declared.operators.BinOp.TheVariants.{Add, Sub, Mul, Div, Rem, And, Or, Xor, Shl, Shr, Lt, Le, Gt, Ge, Eq, Ne}
use Rattle.c_base.specs.declared.integer.IntKind.{IntKind}
use Rattle.c_base.specs.declared.integer.Machine.{Machine}
use Rattle.c_base.specs.declared.kind.Kind.{Kind}
use Rattle.c_base.specs.declared.kind.Kind.TheVariants.{Shift}
use Rattle.c_base.specs.declared.kind.KindSet.{KindSet}
use Rattle.c_base.specs.KindSets.{no_kinds, with_kind}
use Rattle.c_base.specs.Integers.{is_signed, FitsKind}
use Rattle.c_base.specs.Operators.{OnRight}
use Rattle.c_memory.specs.Layouts.{Layout}
use Rattle.c_memory.specs.Values.{Value}
use Rattle.c_memory.specs.Operations.{is_comparison}
use Rattle.ival_arith.specs.Kinds.{kind_set}
use Rattle.avalue_base.specs.Lists.{union_of}
use Rattle.avalue_base.specs.Values.{AVal, Separate, Mixed, bases_of}
use Rattle.avalue_base.specs.Meaning.{Means}
use Rattle.aops.specs.Promises.{GivesOne}
use Rattle.aops.specs.Numbers.{truth_set, integer_set, integer_kinds}

-- with which kinds an operator may be undefined at all, in a type with or without a sign
abbrev pub possible_kinds : BinOp → Bool → KindSet
possible_kinds Add signed = kind_set false signed
possible_kinds Sub signed = kind_set false signed
possible_kinds Mul signed = kind_set false signed
possible_kinds Div signed = kind_set true signed
possible_kinds Rem signed = kind_set true signed
possible_kinds And signed = no_kinds
possible_kinds Or signed = no_kinds
possible_kinds Xor signed = no_kinds
possible_kinds Shl signed = with_kind no_kinds Shift
possible_kinds Shr signed = with_kind no_kinds Shift
possible_kinds Lt signed = no_kinds
possible_kinds Le signed = no_kinds
possible_kinds Gt signed = no_kinds
possible_kinds Ge signed = no_kinds
possible_kinds Eq signed = no_kinds
possible_kinds Ne signed = no_kinds

-- what is known of a result that may be made from addresses: a truth, or anything made from these bases
abbrev pub blended : BinOp → List ℕ → AVal
blended op bases = cond (is_comparison op) (Separate (truth_set true true) []) (Mixed bases)

abbrev pub integer_value : BinOp → IntKind → Machine → AVal → AVal → AVal
integer_value op k m (Separate ns []) (Separate ms []) = Separate (integer_set op k m ns ms) []
integer_value op k m v w = blended op (union_of (bases_of v) (bases_of w))

abbrev pub integer_value_kinds : BinOp → IntKind → Machine → AVal → AVal → KindSet
integer_value_kinds op k m (Separate ns []) (Separate ms []) = integer_kinds op k m ns ms
integer_value_kinds op k m v w = possible_kinds op (is_signed k)

-- a value of each operand, of the types that the operator asks for
pub record AreOperands (op : BinOp) (k : IntKind) (m : Machine) (l : Layout) (v w : AVal) (x y : Value) : Type 0 where
  pub left : Means l v x
  pub right : Means l w y
  pub fits_left : FitsKind k m x.number
  pub fits_right : OnRight op (FitsKind k m) y.number

-- why an operator may be undefined: an operand may be made from an address, or some numbers of the type are undefined with this kind
abbrev pub Cause : BinOp → IntKind → Machine → AVal → AVal → Kind → Type 0
Cause op k m (Separate ns []) (Separate ms []) kind = GivesOne op k m ns ms (Err kind)
Cause op k m v w kind = Unit {0}
