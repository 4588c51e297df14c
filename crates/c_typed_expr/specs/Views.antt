-- The plain trees that the code's trees stand for.
use Rattle.std.specs.Prelude.{ℕ, List, [], ◌∷◌, Bool, true, false, cond, pos}
use Rattle.c_base.specs.declared.integer.IntKind.TheVariants.{Int, Long, ULong}
use Rattle.c_base.specs.declared.operators.BinOp.{BinOp}
use Rattle.c_base.specs.declared.operators.BinOp.TheVariants.{Add, Ne}
use Rattle.c_memory.specs.declared.scalar.Scalar.TheVariants as scalar
use Rattle.c_types.specs.Types as types
use Rattle.c_types.specs.Types.{CType}
use Rattle.c_types.specs.Views.{type_of}
use Rattle.c_types.specs.Steps.{stepped}
use Rattle.c_typed_expr.specs.Trees as plain
use Rattle.c_typed_expr.specs.Trees.{Lvalue, Expr, Exprs, NoExpr, NextExpr}
use Rattle.c_typed_expr.specs.declared.expr.TExpr.{TExpr, fold-TExpr}
use Rattle.c_typed_expr.specs.declared.expr.TExpr.TheOpen.{TExpr-F, TRoot-F, TStep-F, TCompound-F, TLval-F, TOperand-F}
use Rattle.c_typed_expr.specs.declared.expr.TRoot.{TRoot, fold-TRoot}
use Rattle.c_typed_expr.specs.declared.expr.TStep.{TStep, fold-TStep}
use Rattle.c_typed_expr.specs.declared.expr.TCompound.{TCompound, fold-TCompound}
use Rattle.c_typed_expr.specs.declared.expr.TLval.{TLval, fold-TLval}
use Rattle.c_typed_expr.specs.declared.expr.TOperand.{TOperand, fold-TOperand}

abbrev pub listed : List Expr → Exprs
listed [] = NoExpr
listed (e ∷ more) = NextExpr e (listed more)

-- a load by the type of the lvalue
abbrev pub load_of : CType → Lvalue → Expr
load_of (types.Integer kind) p = plain.Load (scalar.Integer kind) p
load_of (types.Pointer to) p = plain.Load scalar.Pointer p
load_of types.Void p = plain.LoadCells types.Void p
load_of (types.Array of count) p = plain.LoadCells (types.Array of count) p
load_of (types.Composite number) p = plain.LoadCells (types.Composite number) p
load_of (types.Function result params variadic) p = plain.LoadCells (types.Function result params variadic) p

-- what stands at a place; a value without a place is itself
abbrev pub value_at : CType → Lvalue → Expr
value_at t (plain.Temporary e u) = e
value_at t (plain.Variable base) = load_of t (plain.Variable base)
value_at t (plain.Pointed e u volatile) = load_of t (plain.Pointed e u volatile)
value_at t (plain.Member p c m) = load_of t (plain.Member p c m)
value_at t (plain.Element p e u n end) = load_of t (plain.Element p e u n end)
value_at t (plain.ElementOf e p u n end) = load_of t (plain.ElementOf e p u n end)

abbrev pub assignment_of : CType → Lvalue → Expr → Expr
assignment_of (types.Integer kind) p e = plain.Assign (scalar.Integer kind) p e
assignment_of (types.Pointer to) p e = plain.Assign scalar.Pointer p e
assignment_of types.Void p e = plain.AssignCells types.Void p e
assignment_of (types.Array of count) p e = plain.AssignCells (types.Array of count) p e
assignment_of (types.Composite number) p e = plain.AssignCells (types.Composite number) p e
assignment_of (types.Function result params variadic) p e = plain.AssignCells (types.Function result params variadic) p e

-- an operator by the types of its operands
abbrev pub on_integer : BinOp → CType → CType → Expr → Expr → Expr
on_integer op (types.Integer kind) (types.Integer other) a b = plain.Binary op kind a b
on_integer op left right a b = plain.OnPointers op left right a b

abbrev pub null : CType → Expr
null t = plain.Convert t (plain.Number Int (pos 0))

-- so many elements behind a pointer
abbrev pub behind : CType → Expr → Expr → Expr
behind to pointer number = plain.OnPointers Add (types.Pointer to) (types.Integer Long) pointer number

abbrev pub logic_run : Bool → Expr → List Expr → Expr
logic_run is_and e [] = e
logic_run is_and e (f ∷ more) = logic_run is_and (plain.Logic is_and e f) more

abbrev pub comma_run : List Expr → Expr → Expr
comma_run [] last = last
comma_run (e ∷ more) last = plain.Comma e (comma_run more last)

abbrev pub expr_step : TExpr-F Expr Lvalue (Lvalue → Lvalue) Expr Lvalue (Expr → Expr) → Expr
expr_step (TExpr-F.Const n kind) = plain.Number kind n
expr_step (TExpr-F.SizeOf size nodes) = plain.Number ULong (pos size)
expr_step (TExpr-F.Value place t) = value_at (type_of t) place
expr_step (TExpr-F.Address place t) = plain.Address (type_of t) place
expr_step (TExpr-F.Decay place t) = plain.Address (type_of t) place
expr_step (TExpr-F.Unary op kind e) = plain.Unary op kind e
expr_step (TExpr-F.Run first more) = stepped more first
expr_step (TExpr-F.Logic is_and first more) = logic_run is_and first more
expr_step (TExpr-F.Conditional a b c t) = plain.Conditional (type_of t) a b c
expr_step (TExpr-F.Assign place t e) = assignment_of (type_of t) place e
expr_step (TExpr-F.Compound compound) = compound
expr_step (TExpr-F.StepBefore place t up) = plain.Step up false (type_of t) place
expr_step (TExpr-F.Convert t e) = plain.Convert (type_of t) e
expr_step (TExpr-F.Cast t e) = plain.Convert (type_of t) e
expr_step (TExpr-F.IsSet t e) = plain.OnPointers Ne (type_of t) (type_of t) e (null (type_of t))
expr_step (TExpr-F.Comma before last) = comma_run before last

abbrev pub root_step : TRoot-F Expr Lvalue (Lvalue → Lvalue) Expr Lvalue (Expr → Expr) → Lvalue
root_step (TRoot-F.Object base) = plain.Variable base.0
root_step (TRoot-F.Deref e t volatile) = plain.Pointed e (type_of t) volatile
root_step (TRoot-F.Temporary e t) = plain.Temporary e (type_of t)
root_step (TRoot-F.ElementOf e place t n end) = plain.ElementOf e place (type_of t) n end
root_step (TRoot-F.BeyondOf number pointer t volatile) =
    plain.Pointed (plain.OnPointers Add (types.Integer Long) (types.Pointer (type_of t)) number pointer) (type_of t) volatile

abbrev pub step_step : TStep-F Expr Lvalue (Lvalue → Lvalue) Expr Lvalue (Expr → Expr) → Lvalue → Lvalue
step_step (TStep-F.Member c m) p = plain.Member p c m
step_step (TStep-F.Element e t n end) p = plain.Element p e (type_of t) n end
step_step (TStep-F.Follow t volatile) p = plain.Pointed (value_at (types.Pointer (type_of t)) p) (type_of t) volatile
step_step (TStep-F.Beyond e t volatile) p = plain.Pointed (behind (type_of t) (value_at (types.Pointer (type_of t)) p) e) (type_of t) volatile
step_step (TStep-F.Call site arguments t pointed) p = plain.Temporary (plain.Call site.0 (type_of t) p (listed arguments)) (type_of t)
step_step (TStep-F.StepAfter t up) p = plain.Temporary (plain.Step up true (type_of t) p) (type_of t)

abbrev pub lvalue_step : TLval-F Expr Lvalue (Lvalue → Lvalue) Expr Lvalue (Expr → Expr) → Lvalue
lvalue_step l = stepped l.steps l.root

abbrev pub operand_step : TOperand-F Expr Lvalue (Lvalue → Lvalue) Expr Lvalue (Expr → Expr) → Expr → Expr
operand_step o a = on_integer o.operator (type_of o.left) (type_of o.right) (cond o.converts (plain.Convert (type_of o.left) a) a) o.operand

abbrev pub compound_step : TCompound-F Expr Lvalue (Lvalue → Lvalue) Expr Lvalue (Expr → Expr) → Expr
compound_step c = plain.Compound c.operator (type_of c.ctype) (type_of c.left) (type_of c.right) c.place c.operand

abbrev pub expr_of : TExpr → Expr
expr_of = fold-TExpr Expr Lvalue (Lvalue → Lvalue) Expr Lvalue (Expr → Expr) expr_step root_step step_step compound_step lvalue_step operand_step

abbrev pub lvalue_of : TLval → Lvalue
lvalue_of = fold-TLval Expr Lvalue (Lvalue → Lvalue) Expr Lvalue (Expr → Expr) expr_step root_step step_step compound_step lvalue_step operand_step

abbrev pub root_of : TRoot → Lvalue
root_of = fold-TRoot Expr Lvalue (Lvalue → Lvalue) Expr Lvalue (Expr → Expr) expr_step root_step step_step compound_step lvalue_step operand_step

-- a step takes a place to the next one
abbrev pub step_of : TStep → Lvalue → Lvalue
step_of = fold-TStep Expr Lvalue (Lvalue → Lvalue) Expr Lvalue (Expr → Expr) expr_step root_step step_step compound_step lvalue_step operand_step

-- an operator with its right operand takes what stands on its left
abbrev pub operand_of : TOperand → Expr → Expr
operand_of = fold-TOperand Expr Lvalue (Lvalue → Lvalue) Expr Lvalue (Expr → Expr) expr_step root_step step_step compound_step lvalue_step operand_step

abbrev pub compound_of : TCompound → Expr
compound_of = fold-TCompound Expr Lvalue (Lvalue → Lvalue) Expr Lvalue (Expr → Expr) expr_step root_step step_step compound_step lvalue_step operand_step
