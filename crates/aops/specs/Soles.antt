-- What operators make of single values.
use Rattle.std.specs.Prelude.{◌≡◌, ◌↔◌, Bool, true, ◌&&◌, ◌||◌, IsTrue, [], ◌∷◌, Result, Ok, Err}
use Rattle.c_base.specs.declared.operators.BinOp.{BinOp}
use Rattle.c_base.specs.declared.integer.IntKind.{IntKind}
use Rattle.c_base.specs.declared.integer.Machine.{Machine}
use Rattle.c_base.specs.declared.kind.Kind.{Kind}
use Rattle.c_base.specs.declared.kind.KindSet.{KindSet}
use Rattle.c_base.specs.KindSets.{allowed}
use Rattle.c_memory.specs.declared.scalar.Scalar.{Scalar}
use Rattle.c_memory.specs.declared.scalar.Scalar.TheVariants.{Integer, Pointer}
use Rattle.c_memory.specs.Layouts.{Layout}
use Rattle.c_memory.specs.Values.{Value}
use Rattle.avalue_base.specs.Numbers.{is_empty_list}
use Rattle.avalue_base.specs.Values.{AVal, Separate, Mixed, bases_of}
use Rattle.avalue_base.specs.Meaning.{Means}
use Rattle.avalue_base.specs.Singles.{is_single_value}
use Rattle.aops.specs.Converted.{is_word}
use Rattle.aops.specs.Promises.{IsNarrow}

-- one number alone, which was made from no address
abbrev pub is_single_number : AVal → Bool
is_single_number v = is_single_value v && is_empty_list (bases_of v)

-- the value and the kinds of one step alone: where it has a result, this result and no kind, and else no value and its kind
pub record IsSole (l : Layout) (r : Result Value Kind) (v : AVal) (kinds : KindSet) : Type 0 where
  pub value : (z : Value) → Means l v z ↔ (r ≡ Ok z)
  pub kind : (k : Kind) → IsTrue (allowed kinds k) ↔ (r ≡ Err k)

-- the results of values that are numbers alone are narrow
abbrev pub NarrowValue : BinOp → IntKind → Machine → AVal → AVal → AVal → Type 0
NarrowValue op k m (Separate a []) (Separate b []) (Separate s []) = IsNarrow op k m a b s
NarrowValue op k m (Separate a []) (Separate b []) (Separate s (z ∷ zs)) = Unit {0}
NarrowValue op k m (Separate a []) (Separate b []) (Mixed bases) = Unit {0}
NarrowValue op k m (Separate a []) (Separate b (y ∷ ys)) u = Unit {0}
NarrowValue op k m (Separate a []) (Mixed bases) u = Unit {0}
NarrowValue op k m (Separate a (x ∷ xs)) w u = Unit {0}
NarrowValue op k m (Mixed bases) w u = Unit {0}

-- a type that holds each pointer's number as it is
abbrev pub holds_pointers : Scalar → Machine → Bool
holds_pointers (Integer kind) m = is_word kind m
holds_pointers Pointer m = true

-- no address is lost where the value is converted to the type
abbrev pub keeps_addresses : Scalar → Machine → AVal → Bool
keeps_addresses to m v = is_empty_list (bases_of v) || holds_pointers to m

-- two values are never more than one
abbrev pub IsAlone : Layout → AVal → Type 0
IsAlone l v = (x y : Value) → Means l v x → Means l v y → x ≡ y
