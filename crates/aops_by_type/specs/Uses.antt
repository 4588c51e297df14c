-- How single values are used as C means it, and why operators by types may be undefined.
use Rattle.std.specs.Prelude.{◌≡◌, ℕ, ◌<◌, Bool, true, ℤ, pos, ◌*ℤ◌, [], ◌∷◌, Err}
use Rattle.c_base.specs.declared.operators.BinOp.{BinOp}
use Rattle.c_base.specs.declared.integer.Machine.{Machine}
use Rattle.c_base.specs.declared.kind.Kind.{Kind}
use Rattle.c_memory.specs.Layouts.{Layout}
use Rattle.c_memory.specs.Values.{Value, plain}
use Rattle.ival_core.specs.declared.value.Ival.{Ival}
use Rattle.ival_core.specs.Ivals.{Holds}
use Rattle.avalue_base.specs.Values.{AVal, Separate, Mixed}
use Rattle.avalue_base.specs.Meaning.{IsWord}
use Rattle.avalue_base.specs.Meets.{has_near_offsets}
use Rattle.avalue_base.specs.Singles.{is_single_value}
use Rattle.aops.specs.Integers.{Cause}
use Rattle.aops.specs.Soles.{is_single_number, NarrowValue}
use Rattle.aops_pointers.specs.Moved.{KeepsNear}
use Rattle.aops_by_type.specs.declared.binary.Operand.{Operand}
use Rattle.aops_by_type.specs.declared.binary.Operand.TheVariants.{Integer, Pointer}
use Rattle.aops_by_type.specs.Typed.{is_difference, result_of}

-- one pointer, moved by one count of elements of so many bytes, an address to an offset that is kept (C11 6.5.6p8)
pub record IsMoved (back : Bool) (size : ℕ) (pointer count : AVal) (y : Value) : Type 0 where
  pub pointer_single : is_single_value pointer ≡ true
  pub count_single : is_single_number count ≡ true
  pub near : KeepsNear back (y.number *ℤ pos size) pointer

-- two single pointers, with offsets that are kept (C11 6.5.6p9, 6.5.8, 6.5.9)
pub record AreSingle (v w : AVal) : Type 0 where
  pub left : is_single_value v ≡ true
  pub right : is_single_value w ≡ true
  pub left_near : has_near_offsets v ≡ true
  pub right_near : has_near_offsets w ≡ true

-- two single values used so; only integers that were made from no address are operands of operators on integers
abbrev pub AreUsed : BinOp → Operand → Operand → AVal → AVal → Value → Value → Type 0
AreUsed op (Integer k) (Integer j) v w x y = (is_single_number v ≡ true) × (is_single_number w ≡ true)
AreUsed op (Integer k) (Pointer size) v w x y = IsMoved (is_difference op) size w v x
AreUsed op (Pointer size) (Integer k) v w x y = IsMoved (is_difference op) size v w y
AreUsed op (Pointer size) (Pointer other) v w x y = AreSingle v w × (is_difference op ≡ true → 0 < size)

-- the results of integers are narrow
abbrev pub NarrowTyped : BinOp → Operand → Operand → Machine → AVal → AVal → AVal → Type 0
NarrowTyped op (Integer k) (Integer j) m v w u = NarrowValue op k m v w u
NarrowTyped op (Integer k) (Pointer size) m v w u = Unit {0}
NarrowTyped op (Pointer size) right m v w u = Unit {0}

-- two pointers that were made from no address, for which the operator is undefined in every layout
pub record AreUndefined (op : BinOp) (size other : ℕ) (m : Machine) (ns ms : Ival) (kind : Kind) : Type 0 where
  pub left : ℤ
  pub right : ℤ
  pub in_left : Holds ns left
  pub in_right : Holds ms right
  pub left_word : IsWord left
  pub right_word : IsWord right
  pub is : (l : Layout) → result_of op (Pointer size) (Pointer other) m l (plain left) (plain right) ≡ Err kind

-- why an operator on two pointers may be undefined: one may be made from an address, or some numbers are undefined with this kind
abbrev pub PointerCause : BinOp → ℕ → ℕ → Machine → AVal → AVal → Kind → Type 0
PointerCause op size other m (Separate ns []) (Separate ms []) kind = AreUndefined op size other m ns ms kind
PointerCause op size other m (Separate ns []) (Separate ms (b ∷ bs)) kind = Unit {0}
PointerCause op size other m (Separate ns []) (Mixed bases) kind = Unit {0}
PointerCause op size other m (Separate ns (a ∷ addresses)) w kind = Unit {0}
PointerCause op size other m (Mixed bases) w kind = Unit {0}

-- why an operator may be undefined; a pointer moved by a count never is
abbrev pub TypedCause : BinOp → Operand → Operand → Machine → AVal → AVal → Kind → Type 0
TypedCause op (Integer k) (Integer j) m v w kind = Cause op k m v w kind
TypedCause op (Integer k) (Pointer size) m v w kind = ⊥
TypedCause op (Pointer size) (Integer k) m v w kind = ⊥
TypedCause op (Pointer size) (Pointer other) m v w kind = PointerCause op size other m v w kind
