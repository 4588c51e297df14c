-- What operators on sets of numbers and on values promise.
use Rattle.std.specs.Prelude.{◌≡◌, ℕ, ◌+◌, ◌≤◌, ◌⊎◌, ℤ, ◌+ℤ◌, ◌-ℤ◌, Result, Ok}
use Rattle.c_base.specs.declared.operators.BinOp.{BinOp}
use Rattle.c_base.specs.declared.operators.BinOp.TheVariants.{Add, Sub, Mul, Div, Rem, And, Or, Xor, Shl, Shr}
use Rattle.c_base.specs.declared.integer.IntKind.{IntKind}
use Rattle.c_base.specs.declared.integer.Machine.{Machine}
use Rattle.c_base.specs.declared.kind.Kind.{Kind}
use Rattle.c_base.specs.Integers.{FitsKind, is_signed, width_of}
use Rattle.c_base.specs.Operators.{applied, OnRight}
use Rattle.c_memory.specs.Layouts.{Layout, last_address}
use Rattle.ival_core.specs.declared.value.Ival.{Ival}
use Rattle.ival_core.specs.Ivals.{Holds}
use Rattle.ival_core.specs.Sets.{HoldsNine, IsLeast}
use Rattle.ival_arith.specs.Answers.{typed}
use Rattle.ival_arith.specs.Promises.{InType, AllInRange, IsSharp}
use Rattle.ival_bits.specs.Promises.{IsSharp as AreSharpBits}

-- A number of a and one of b, and what an operator on integers makes of them. The left one is of the type, and so is the right one unless it
-- is a count.
pub record GivesOne (op : BinOp) (k : IntKind) (m : Machine) (a b : Ival) (r : Result ℤ Kind) : Type 0 where
  pub left : ℤ
  pub right : ℤ
  pub in_left : Holds a left
  pub in_right : Holds b right
  pub fits_left : FitsKind k m left
  pub fits_right : OnRight op (FitsKind k m) right
  pub is : applied op k m left right ≡ r

abbrev pub IsSharpSum : BinOp → IntKind → Machine → Ival → Ival → Type 0
IsSharpSum op k m a b = IsSharp op (is_signed k) (width_of k m) (typed (is_signed k) (width_of k m) a.shape) (typed (is_signed k) (width_of k m) b.shape)

abbrev pub IsSharpMask : BinOp → IntKind → Machine → Ival → Ival → Type 0
IsSharpMask op k m a b = AreSharpBits op (is_signed k) (width_of k m) (typed (is_signed k) (width_of k m) a.shape) (typed (is_signed k) (width_of k m) b.shape)

-- where at most 8 results are held alone: as the operators on sets of integers have it; relations have both truths at most, of numbers of the type
abbrev pub IsSharpOn : BinOp → IntKind → Machine → Ival → Ival → Type 0
IsSharpOn Add k m a b = IsSharpSum Add k m a b
IsSharpOn Sub k m a b = IsSharpSum Sub k m a b
IsSharpOn Mul k m a b = IsSharpSum Mul k m a b
IsSharpOn Div k m a b = IsSharpSum Div k m a b
IsSharpOn Rem k m a b = IsSharpSum Rem k m a b
IsSharpOn And k m a b = IsSharpMask And k m a b
IsSharpOn Or k m a b = IsSharpMask Or k m a b
IsSharpOn Xor k m a b = IsSharpMask Xor k m a b
IsSharpOn Shl k m a b = Unit {0}
IsSharpOn Shr k m a b = Unit {0}
IsSharpOn op k m a b = InType (is_signed k) (width_of k m) a × InType (is_signed k) (width_of k m) b

-- a set of results of numbers of a and b that holds few others
pub record IsNarrow (op : BinOp) (k : IntKind) (m : Machine) (a b s : Ival) : Type 0 where
  pub exact : IsSharpOn op k m a b → (HoldsNine (λ n. GivesOne op k m a b (Ok n)) → ⊥) → (n : ℤ) → Holds s n → GivesOne op k m a b (Ok n)
  pub least_sum : op ≡ Add → AllInRange (λ x y. x +ℤ y) k m a b → IsLeast (λ n. GivesOne op k m a b (Ok n)) s.shape
  pub least_difference : op ≡ Sub → AllInRange (λ x y. x -ℤ y) k m a b → IsLeast (λ n. GivesOne op k m a b (Ok n)) s.shape

-- The bases stand between 1 and the machine's last address, and no two of them share a byte.
pub record Stands (l : Layout) (Known : ℕ → Type 0) : Type 0 where
  pub low : (b : ℕ) → Known b → 1 ≤ l.address b
  pub high : (b : ℕ) → Known b → l.address b + l.size b ≤ last_address l.machine
  pub apart : (b c : ℕ) → Known b → Known c → (b ≡ c → ⊥) → (l.address b + l.size b ≤ l.address c) ⊎ (l.address c + l.size c ≤ l.address b)
