-- What operators with one operand promise (C11 6.5.3.3).
use Rattle.std.specs.Prelude.{◌≡◌, ℕ, Bool, true, false, ℤ, pos, negsuc, List, [], ◌∷◌, Option, None, Some, Result, Ok, Err}
use Rattle.c_base.specs.declared.operators.UnOp.{UnOp}
use Rattle.c_base.specs.declared.operators.UnOp.TheVariants.{Neg, Not, Compl}
use Rattle.c_base.specs.declared.integer.IntKind.{IntKind}
use Rattle.c_base.specs.declared.integer.Machine.{Machine}
use Rattle.c_base.specs.declared.kind.Kind.{Kind}
use Rattle.c_base.specs.declared.kind.KindSet.{KindSet}
use Rattle.c_base.specs.KindSets.{no_kinds}
use Rattle.c_base.specs.Integers.{FitsKind, is_signed, width_of}
use Rattle.c_base.specs.Operators.{applied_unary}
use Rattle.c_base.specs.declared.operators.Rel.TheVariants as rel
use Rattle.ival_core.specs.declared.value.Shape.{Shape}
use Rattle.ival_core.specs.declared.value.Shape.TheVariants.{Few}
use Rattle.ival_core.specs.declared.value.Ival.{Ival}
use Rattle.ival_core.specs.Ivals.{Holds, IsOnly}
use Rattle.ival_core.specs.Sets.{HoldsNine, IsLeast}
use Rattle.ival_arith.specs.Answers.{typed, negate_value, negate_kinds}
use Rattle.ival_arith.specs.Exact.{exact_difference}
use Rattle.ival_arith.specs.Kinds.{kind_set}
use Rattle.ival_arith.specs.Promises.{InType, AllNegatedInRange}
use Rattle.avalue_base.specs.Meets.{least_of, set_of}
use Rattle.avalue_base.specs.Numbers.{no_numbers}
use Rattle.avalue_base.specs.Values.{AVal, Separate, Mixed, bases_of}
use Rattle.aops.specs.Numbers.{truth_set, related}
use Rattle.aops.specs.Converted.{wrapped_set}

-- a number of a in the type, and what the operator makes of it
pub record GivesUnary (op : UnOp) (k : IntKind) (m : Machine) (a : Ival) (r : Result ℤ Kind) : Type 0 where
  pub operand : ℤ
  pub in_set : Holds a operand
  pub fits : FitsKind k m operand
  pub is : applied_unary op k m operand ≡ r

-- the numbers as those of a type, if they are known
abbrev pub wrapped_option : Bool → ℕ → Option Shape → Ival
wrapped_option signed bits None = no_numbers
wrapped_option signed bits (Some s) = wrapped_set signed bits (set_of s)

-- the numbers of a type with all bits turned: -1 less each of them, in the type
abbrev pub complements : Bool → ℕ → Ival → Ival
complements signed bits a = wrapped_option signed bits (exact_difference (Few (record { items = negsuc 0 ∷ [] })) (typed signed bits a.shape))

-- the results of an operator on the numbers of a set in a type
unfoldable pub one_set : UnOp → IntKind → Machine → Ival → Ival
one_set Neg k m a = set_of (negate_value k m a.shape)
one_set Not k m a = related rel.Eq a (least_of (pos 0 ∷ []))
one_set Compl k m a = complements (is_signed k) (width_of k m) a

-- the kinds with which it is undefined for some of them
unfoldable pub one_kinds : UnOp → IntKind → Machine → Ival → KindSet
one_kinds Neg k m a = negate_kinds k m a.shape
one_kinds Not k m a = no_kinds
one_kinds Compl k m a = no_kinds

-- with which kinds an operator may be undefined at all, in a type with or without a sign
abbrev pub possible_kinds : UnOp → Bool → KindSet
possible_kinds Neg signed = kind_set false signed
possible_kinds Not signed = no_kinds
possible_kinds Compl signed = no_kinds

-- what is known of a result that may be made from addresses: a truth, or anything made from these bases
abbrev pub blended_one : UnOp → List ℕ → AVal
blended_one Neg bases = Mixed bases
blended_one Not bases = Separate (truth_set true true) []
blended_one Compl bases = Mixed bases

abbrev pub one_value : UnOp → IntKind → Machine → AVal → AVal
one_value op k m (Separate ns []) = Separate (one_set op k m ns) []
one_value op k m (Separate ns (a ∷ addresses)) = blended_one op (bases_of (Separate ns (a ∷ addresses)))
one_value op k m (Mixed bases) = blended_one op bases

abbrev pub one_value_kinds : UnOp → IntKind → Machine → AVal → KindSet
one_value_kinds op k m (Separate ns []) = one_kinds op k m ns
one_value_kinds op k m (Separate ns (a ∷ addresses)) = possible_kinds op (is_signed k)
one_value_kinds op k m (Mixed bases) = possible_kinds op (is_signed k)

-- why an operator may be undefined: its operand may be made from an address, or some number of the type is undefined with this kind
abbrev pub Cause : UnOp → IntKind → Machine → AVal → Kind → Type 0
Cause op k m (Separate ns []) kind = GivesUnary op k m ns (Err kind)
Cause op k m (Separate ns (a ∷ addresses)) kind = Unit {0}
Cause op k m (Mixed bases) kind = Unit {0}

-- where at most 8 results are held alone: numbers of the type under `!`, and one number under `~`
abbrev pub IsSharpOne : UnOp → IntKind → Machine → Ival → Type 0
IsSharpOne Neg k m a = Unit {0}
IsSharpOne Not k m a = InType (is_signed k) (width_of k m) a
IsSharpOne Compl k m a = (n : ℤ) × IsOnly a n × FitsKind k m n

-- a set of results of numbers of a that holds few others
pub record IsNarrowOne (op : UnOp) (k : IntKind) (m : Machine) (a s : Ival) : Type 0 where
  pub exact : IsSharpOne op k m a → (HoldsNine (λ n. GivesUnary op k m a (Ok n)) → ⊥) → (n : ℤ) → Holds s n → GivesUnary op k m a (Ok n)
  pub least_negated : op ≡ Neg → AllNegatedInRange k m a → IsLeast (λ n. GivesUnary op k m a (Ok n)) s.shape

-- the results of a value that is numbers alone are narrow
abbrev pub NarrowOne : UnOp → IntKind → Machine → AVal → AVal → Type 0
NarrowOne op k m (Separate a []) (Separate s []) = IsNarrowOne op k m a s
NarrowOne op k m (Separate a []) (Separate s (z ∷ zs)) = Unit {0}
NarrowOne op k m (Separate a []) (Mixed bases) = Unit {0}
NarrowOne op k m (Separate a (x ∷ xs)) u = Unit {0}
NarrowOne op k m (Mixed bases) u = Unit {0}
