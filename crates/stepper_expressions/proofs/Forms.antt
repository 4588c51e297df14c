-- Work by the forms of expressions and types.
use Rattle.std.proofs.Common.{◌≡◌, Bool, List, refl}
use Rattle.c_base.specs.declared.operators.BinOp.{BinOp}
use Rattle.c_types.specs.Types.{CType, Void, Integer, Pointer, Array, Composite, Function}
use Rattle.c_typed_expr.specs.Trees.{Expr, Number, Load, Binary, Assign, LoadCells, AssignCells, Address, Unary, Convert, OnPointers, Logic, Conditional, Compound, Step, Comma, Call}
use Rattle.c_machine.specs.Unfolding.{source_work, operator_work}
use Rattle.c_machine.specs.Work.{Work}
use Rattle.stepper_expressions.specs.Forms.{copied_from, source_by, kind_of, operator_by}

pub source_by_form : (named : Bool) (t : CType) (value e : Expr) (rest : List Work) → source_work named t value e rest ≡ source_by named t value (copied_from e) rest
source_by_form named t value (LoadCells u p) rest = refl
source_by_form named t value e rest = refl

pub operator_by_kinds : (op : BinOp) (left right : CType) → operator_work op left right ≡ operator_by op left right (kind_of left) (kind_of right)
operator_by_kinds op (Integer kind) (Integer other) = refl
operator_by_kinds op (Integer kind) right = refl
operator_by_kinds op left right = refl
