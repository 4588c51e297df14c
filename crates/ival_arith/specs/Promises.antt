-- What the calls promise.
use Rattle.std.specs.Prelude.{ℕ, ◌≡◌, Bool, not, ◌&&◌, ℤ, neg_ℤ, int_lt, int_le, Result}
use Rattle.c_base.specs.declared.operators.Rel.{Rel}
use Rattle.c_base.specs.declared.operators.Rel.TheVariants.{Lt, Le, Gt, Ge, Eq, Ne}
use Rattle.c_base.specs.declared.operators.BinOp.{BinOp}
use Rattle.c_base.specs.declared.operators.BinOp.TheVariants.{Add, Sub, Mul, Div, Rem}
use Rattle.c_base.specs.declared.operators.UnOp.TheVariants.{Neg}
use Rattle.c_base.specs.declared.integer.IntKind.{IntKind}
use Rattle.c_base.specs.declared.integer.Machine.{Machine}
use Rattle.c_base.specs.declared.kind.Kind.{Kind}
use Rattle.c_base.specs.Integers.{FitsKind, FitsBits}
use Rattle.c_base.specs.Operators.{applied, applied_unary}
use Rattle.ival_core.specs.declared.value.Ival.{Ival}
use Rattle.ival_core.specs.declared.value.Shape.{Shape}
use Rattle.ival_core.specs.declared.value.Shape.TheVariants.{Few, Many}
use Rattle.ival_core.specs.Sets.{IsNumber}
use Rattle.ival_core.specs.Ivals.{Holds}

-- n is f of a number of a and one of b
pub record Outcome (f : ℤ → ℤ → ℤ) (a b : Ival) (n : ℤ) : Type 0 where
  pub left : ℤ
  pub right : ℤ
  pub in_left : Holds a left
  pub in_right : Holds b right
  pub is : n ≡ f left right

-- f of a number of a and one of b is no number that an `Ival` may hold
pub record Leaves (f : ℤ → ℤ → ℤ) (a b : Ival) : Type 0 where
  pub left : ℤ
  pub right : ℤ
  pub in_left : Holds a left
  pub in_right : Holds b right
  pub leaves : IsNumber (f left right) → ⊥

-- f of each number of a and each of b is a number that an `Ival` may hold
abbrev pub Stays : (ℤ → ℤ → ℤ) → Ival → Ival → Type 0
Stays f a b = (x y : ℤ) → Holds a x → Holds b y → IsNumber (f x y)

-- a relation of two numbers (C11 6.5.8 and 6.5.9)
abbrev pub relates : Rel → ℤ → ℤ → Bool
relates Lt x y = int_lt x y
relates Le x y = int_le x y
relates Gt x y = int_lt y x
relates Ge x y = int_le y x
relates Eq x y = int_le x y && int_le y x
relates Ne x y = not (int_le x y && int_le y x)

-- some numbers of a and b have this truth
pub record Compares (rel : Rel) (a b : Ival) (truth : Bool) : Type 0 where
  pub left : ℤ
  pub right : ℤ
  pub in_left : Holds a left
  pub in_right : Holds b right
  pub is : relates rel left right ≡ truth

-- numbers of a and b in the type's range, and what the operator makes of them
pub record Gives (op : BinOp) (k : IntKind) (m : Machine) (a b : Ival) (r : Result ℤ Kind) : Type 0 where
  pub left : ℤ
  pub right : ℤ
  pub in_left : Holds a left
  pub in_right : Holds b right
  pub fits_left : FitsKind k m left
  pub fits_right : FitsKind k m right
  pub is : applied op k m left right ≡ r

-- a number of a in the type's range, and what unary minus makes of it
pub record GivesNegated (k : IntKind) (m : Machine) (a : Ival) (r : Result ℤ Kind) : Type 0 where
  pub from : ℤ
  pub has : Holds a from
  pub fits : FitsKind k m from
  pub is : applied_unary Neg k m from ≡ r

-- each number of v is of the type
pub record InType (signed : Bool) (width : ℕ) (v : Ival) : Type 0 where
  pub fits : (n : ℤ) → Holds v n → FitsBits signed width n

-- the operators of arithmetic
abbrev pub IsArithmetic : BinOp → Type 0
IsArithmetic Add = Unit {0}
IsArithmetic Sub = Unit {0}
IsArithmetic Mul = Unit {0}
IsArithmetic Div = Unit {0}
IsArithmetic Rem = Unit {0}
IsArithmetic op = ⊥

-- where a result has no other numbers, unless there are more than 8
abbrev pub IsSharp : BinOp → Bool → ℕ → Shape → Shape → Type 0
IsSharp op signed width (Few v) (Few u) = Unit {0}
IsSharp Add signed width s t = Unit {0}
IsSharp Sub signed width s t = Unit {0}
IsSharp Mul signed width s t = Unit {0}
IsSharp Div signed width (Many p) (Few u) = Unit {0}
IsSharp Rem signed width (Many p) (Few u) = Unit {0}
IsSharp Div signed width (Few v) (Many q) = Unit {0}
IsSharp Rem signed width (Few v) (Many q) = Unit {0}
IsSharp op signed width s t = ⊥

-- f of numbers of a and b in the type's range stays in it
abbrev pub AllInRange : (ℤ → ℤ → ℤ) → IntKind → Machine → Ival → Ival → Type 0
AllInRange f k m a b = (x y : ℤ) → Holds a x → Holds b y → FitsKind k m x → FitsKind k m y → FitsKind k m (f x y)

-- the negated numbers of a in the type's range stay in it
abbrev pub AllNegatedInRange : IntKind → Machine → Ival → Type 0
AllNegatedInRange k m a = (x : ℤ) → Holds a x → FitsKind k m x → FitsKind k m (neg_ℤ x)
