-- What the operators promise.
use Rattle.std.specs.Prelude.{◌≡◌, ◌⊎◌, ℕ, ℤ, Bool, IsTrue, Option, Some, None, Result}
use Rattle.c_base.specs.declared.operators.BinOp.{BinOp}
use Rattle.c_base.specs.declared.operators.BinOp.TheVariants.{And, Or, Xor, Shl, Shr}
use Rattle.c_base.specs.declared.integer.IntKind.{IntKind}
use Rattle.c_base.specs.declared.integer.Machine.{Machine}
use Rattle.c_base.specs.declared.kind.Kind.{Kind}
use Rattle.c_base.specs.Integers.{FitsKind}
use Rattle.c_base.specs.Operators.{applied}
use Rattle.ival_core.specs.Ivals.{Holds}
use Rattle.ival_core.specs.declared.value.Ival.{Ival}
use Rattle.ival_core.specs.declared.value.Shape.{Shape}
use Rattle.ival_core.specs.declared.value.Shape.TheVariants.{Few}
use Rattle.ival_bits.specs.Masks.{and_by}
use Rattle.ival_bits.specs.Bitwise.{is_apart}

abbrev pub IsBitwise : BinOp → Type 0
IsBitwise And = Unit {0}
IsBitwise Or = Unit {0}
IsBitwise Xor = Unit {0}
IsBitwise op = ⊥

abbrev pub IsShift : BinOp → Type 0
IsShift Shl = Unit {0}
IsShift Shr = Unit {0}
IsShift op = ⊥

-- a number of a in the type's range and any number of b, since a count has a type of its own (C11 6.5.7p3), and what the shift makes of them
pub record GivesShifted (op : BinOp) (k : IntKind) (m : Machine) (a b : Ival) (r : Result ℤ Kind) : Type 0 where
  pub left : ℤ
  pub count : ℤ
  pub in_left : Holds a left
  pub in_counts : Holds b count
  pub fits_left : FitsKind k m left
  pub is : applied op k m left count ≡ r

abbrev pub IsSome : Option Shape → Type 0
IsSome None = ⊥
IsSome (Some s) = Unit {0}

-- where a result has no other numbers, unless there are more than 8: for few numbers, under a mask, and for numbers without common bits
abbrev pub IsSharp : BinOp → Bool → ℕ → Shape → Shape → Type 0
IsSharp op signed width (Few v) (Few u) = Unit {0}
IsSharp And signed width s t = IsSome (and_by signed width s t) ⊎ IsSome (and_by signed width t s)
IsSharp Or signed width s t = IsTrue (is_apart s t)
IsSharp Xor signed width s t = IsTrue (is_apart s t)
IsSharp op signed width s t = ⊥
