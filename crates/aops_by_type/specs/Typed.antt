-- C's operators on two values, by the types of these.
use Rattle.std.specs.Prelude.{◌≡◌, ◌⊎◌, ℕ, Bool, true, false, cond, [], Option, None, Some, Result, Ok}
use Rattle.c_base.specs.declared.operators.BinOp.{BinOp}
use Rattle.c_base.specs.declared.operators.BinOp.TheVariants.{Add, Sub}
use Rattle.c_base.specs.declared.operators.Rel.{Rel}
use Rattle.c_base.specs.declared.integer.Machine.{Machine}
use Rattle.c_base.specs.declared.kind.Kind.{Kind}
use Rattle.c_base.specs.declared.kind.Kind.TheVariants.{PtrComparison, DifferingBlocks}
use Rattle.c_base.specs.declared.kind.KindSet.{KindSet}
use Rattle.c_base.specs.KindSets.{no_kinds, with_kind}
use Rattle.c_memory.specs.Layouts.{Layout}
use Rattle.c_memory.specs.Values.{Value}
use Rattle.c_memory.specs.Operations.{applied_to, is_comparison}
use Rattle.c_pointers.specs.Pointers.{moved, moved_back, difference, comparison}
use Rattle.avalue_base.specs.Values.{AVal, Separate}
use Rattle.avalue_base.specs.Meaning.{Means}
use Rattle.aops.specs.Integers.{AreOperands, integer_value, integer_value_kinds}
use Rattle.aops.specs.Numbers.{rel_of}
use Rattle.aops_pointers.specs.Moved.{moved_value}
use Rattle.aops_relations.specs.declared.comparisons.Verdict.{Verdict}
use Rattle.aops_relations.specs.Comparisons.{judged, unknown}
use Rattle.aops_relations.specs.Differences.{differed}
use Rattle.aops_relations.specs.Placed.{ArePointers}
use Rattle.aops_by_type.specs.declared.binary.Operand.{Operand}
use Rattle.aops_by_type.specs.declared.binary.Operand.TheVariants.{Integer, Pointer}

abbrev pub is_difference : BinOp → Bool
is_difference Sub = true
is_difference op = false

-- C has the operator for operands of these types (C11 6.5.5 to 6.5.14)
abbrev pub IsOperator : BinOp → Operand → Operand → Type 0
IsOperator op (Integer k) (Integer j) = Unit {0}
IsOperator op (Integer k) (Pointer size) = op ≡ Add
IsOperator op (Pointer size) (Integer k) = (op ≡ Add) ⊎ (op ≡ Sub)
IsOperator op (Pointer size) (Pointer other) = (op ≡ Sub) ⊎ (is_comparison op ≡ true)

-- what the operator gives on two values
abbrev pub result_of : BinOp → Operand → Operand → Machine → Layout → Value → Value → Result Value Kind
result_of op (Integer k) (Integer j) m l x y = applied_to op k m x y
result_of op (Integer k) (Pointer size) m l x y = Ok (moved m size y x)
result_of op (Pointer size) (Integer k) m l x y = cond (is_difference op) (Ok (moved_back m size x y)) (Ok (moved m size x y))
result_of op (Pointer size) (Pointer other) m l x y = cond (is_difference op) (difference l size x y) (comparison op l x y)

-- two values of the types, in a layout
abbrev pub AreTyped : BinOp → Operand → Operand → Machine → (ℕ → ℕ) → Layout → AVal → AVal → Value → Value → Type 0
AreTyped op (Integer k) (Integer j) m size_of l v w x y = AreOperands op k m l v w x y
AreTyped op (Integer k) (Pointer size) m size_of l v w x y = (l.machine ≡ m) × (Means l v x × Means l w y)
AreTyped op (Pointer size) (Integer k) m size_of l v w x y = (l.machine ≡ m) × (Means l v x × Means l w y)
AreTyped op (Pointer size) (Pointer other) m size_of l v w x y = ArePointers size_of l v w x y

abbrev pub kinds_of : Verdict → Kind → KindSet
kinds_of d kind = cond d.sure no_kinds (with_kind no_kinds kind)

abbrev pub compared_by : Option Rel → (ℕ → ℕ) → AVal → AVal → Verdict
compared_by None size_of v w = unknown
compared_by (Some rel) size_of v w = judged rel size_of v w

abbrev pub value_of : BinOp → Operand → Operand → Machine → (ℕ → ℕ) → AVal → AVal → AVal
value_of op (Integer k) (Integer j) m size_of v w = integer_value op k m v w
value_of op (Integer k) (Pointer size) m size_of v w = moved_value false m size w v
value_of op (Pointer size) (Integer k) m size_of v w = moved_value (is_difference op) m size v w
value_of op (Pointer size) (Pointer other) m size_of v w = cond (is_difference op) (Separate (differed size size_of v w).set []) (Separate (compared_by (rel_of op) size_of v w).set [])

abbrev pub value_kinds : BinOp → Operand → Operand → Machine → (ℕ → ℕ) → AVal → AVal → KindSet
value_kinds op (Integer k) (Integer j) m size_of v w = integer_value_kinds op k m v w
value_kinds op (Integer k) (Pointer size) m size_of v w = no_kinds
value_kinds op (Pointer size) (Integer k) m size_of v w = no_kinds
value_kinds op (Pointer size) (Pointer other) m size_of v w = cond (is_difference op) (kinds_of (differed size size_of v w) DifferingBlocks) (kinds_of (compared_by (rel_of op) size_of v w) PtrComparison)
