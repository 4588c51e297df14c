-- Which forms of expressions and types work is chosen by.
use Rattle.std.specs.Prelude.{Option, None, Some, Bool, cond, List, ◌∷◌}
use Rattle.c_base.specs.declared.integer.IntKind.{IntKind}
use Rattle.c_base.specs.declared.operators.BinOp.{BinOp}
use Rattle.c_types.specs.Types.{CType, Integer}
use Rattle.c_typed_expr.specs.Trees.{Lvalue, Expr, LoadCells}
use Rattle.c_machine.specs.Unfolding.{is_temporary}
use Rattle.c_machine.specs.Work.{Work, Evaluate, Locate, Apply, ApplyPointers, StoreCells, CopyCells}

-- the lvalue whose cells are the value of the expression
abbrev pub copied_from : Expr → Option Lvalue
copied_from (LoadCells t p) = Some p
copied_from e = None

-- what an assignment of a struct or union does, by the lvalue that it copies from
abbrev pub source_by : Bool → CType → Expr → Option Lvalue → List Work → List Work
source_by named t value None rest = Evaluate value ∷ StoreCells named t ∷ rest
source_by named t value (Some p) rest =
    cond (is_temporary p) (Evaluate value ∷ StoreCells named t ∷ rest) (Locate p ∷ CopyCells named t ∷ rest)

abbrev pub kind_of : CType → Option IntKind
kind_of (Integer kind) = Some kind
kind_of t = None

-- an operator by the integer types of its operands
abbrev pub operator_by : BinOp → CType → CType → Option IntKind → Option IntKind → Work
operator_by op left right (Some kind) (Some other) = Apply op kind
operator_by op left right (Some kind) None = ApplyPointers op left right
operator_by op left right None other = ApplyPointers op left right
