-- C's operators on sets of numbers, as plain functions.
use Rattle.std.specs.Prelude.{◌≡◌, Bool, true, false, not, ℤ, pos, List, [], ◌∷◌, Option, None, Some}
use Rattle.std.specs.List.{list_any}
use Rattle.c_base.specs.declared.operators.BinOp.{BinOp}
use Rattle.c_base.specs.declared.operators.BinOp.TheVariants.{Add, Sub, Mul, Div, Rem, And, Or, Xor, Shl, Shr, Lt, Le, Gt, Ge, Eq, Ne}
use Rattle.c_base.specs.declared.operators.Rel.{Rel}
use Rattle.c_base.specs.declared.operators.Rel.TheVariants as rel
use Rattle.c_base.specs.declared.integer.IntKind.{IntKind}
use Rattle.c_base.specs.declared.integer.Machine.{Machine}
use Rattle.c_base.specs.declared.kind.KindSet.{KindSet}
use Rattle.c_base.specs.KindSets.{no_kinds}
use Rattle.ival_core.specs.declared.value.Ival.{Ival}
use Rattle.ival_arith.specs.Answers.{binary_value, binary_kinds}
use Rattle.ival_arith.specs.Promises.{relates, IsArithmetic}
use Rattle.ival_bits.specs.Bitwise.{bitwise_value}
use Rattle.ival_bits.specs.Promises.{IsBitwise, IsShift}
use Rattle.ival_bits.specs.Shifts.{shift_value, shift_kinds}
use Rattle.avalue_base.specs.Numbers.{list_of}
use Rattle.avalue_base.specs.Meets.{least_of, set_of}
use Rattle.aops.specs.declared.numbers.Sort.{Sort}
use Rattle.aops.specs.declared.numbers.Sort.TheVariants.{Arithmetic, Bitwise, Shift, Relation}

abbrev pub is_truth : Bool → Bool → Bool
is_truth true b = b
is_truth false b = not b

-- some numbers of a and b have this truth
unfoldable pub may_be : Rel → Bool → Ival → Ival → Bool
may_be r truth a b = list_any (λ x. list_any (λ y. is_truth truth (relates r x y)) (list_of b.shape)) (list_of a.shape)

-- 0 where it may be false, 1 where it may be true
abbrev pub truth_numbers : Bool → Bool → List ℤ
truth_numbers false false = []
truth_numbers false true = pos 0 ∷ []
truth_numbers true false = pos 1 ∷ []
truth_numbers true true = pos 0 ∷ pos 1 ∷ []

-- the relation that an operator asks for
abbrev pub rel_of : BinOp → Option Rel
rel_of Lt = Some rel.Lt
rel_of Le = Some rel.Le
rel_of Gt = Some rel.Gt
rel_of Ge = Some rel.Ge
rel_of Eq = Some rel.Eq
rel_of Ne = Some rel.Ne
rel_of op = None

-- which operator it is
abbrev pub IsSort : BinOp → Sort → Type 0
IsSort op Arithmetic = IsArithmetic op
IsSort op Bitwise = IsBitwise op
IsSort op Shift = IsShift op
IsSort op (Relation r) = rel_of op ≡ Some r

unfoldable pub truth_set : Bool → Bool → Ival
truth_set may_be_true may_be_false = least_of (truth_numbers may_be_true may_be_false)

abbrev pub related : Rel → Ival → Ival → Ival
related r a b = truth_set (may_be r true a b) (may_be r false a b)

-- the results of an operator on numbers of two sets in a type
unfoldable pub integer_set : BinOp → IntKind → Machine → Ival → Ival → Ival
integer_set Add k m a b = set_of (binary_value Add k m a.shape b.shape)
integer_set Sub k m a b = set_of (binary_value Sub k m a.shape b.shape)
integer_set Mul k m a b = set_of (binary_value Mul k m a.shape b.shape)
integer_set Div k m a b = set_of (binary_value Div k m a.shape b.shape)
integer_set Rem k m a b = set_of (binary_value Rem k m a.shape b.shape)
integer_set And k m a b = set_of (bitwise_value And k m a.shape b.shape)
integer_set Or k m a b = set_of (bitwise_value Or k m a.shape b.shape)
integer_set Xor k m a b = set_of (bitwise_value Xor k m a.shape b.shape)
integer_set Shl k m a b = set_of (shift_value Shl k m a.shape b.shape)
integer_set Shr k m a b = set_of (shift_value Shr k m a.shape b.shape)
integer_set Lt k m a b = related rel.Lt a b
integer_set Le k m a b = related rel.Le a b
integer_set Gt k m a b = related rel.Gt a b
integer_set Ge k m a b = related rel.Ge a b
integer_set Eq k m a b = related rel.Eq a b
integer_set Ne k m a b = related rel.Ne a b

-- the kinds with which it is undefined for some of them
unfoldable pub integer_kinds : BinOp → IntKind → Machine → Ival → Ival → KindSet
integer_kinds Add k m a b = binary_kinds Add k m a.shape b.shape
integer_kinds Sub k m a b = binary_kinds Sub k m a.shape b.shape
integer_kinds Mul k m a b = binary_kinds Mul k m a.shape b.shape
integer_kinds Div k m a b = binary_kinds Div k m a.shape b.shape
integer_kinds Rem k m a b = binary_kinds Rem k m a.shape b.shape
integer_kinds Shl k m a b = shift_kinds Shl k m a.shape b.shape
integer_kinds Shr k m a b = shift_kinds Shr k m a.shape b.shape
integer_kinds op k m a b = no_kinds
