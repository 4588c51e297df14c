-- What references into typed programs stand for.
use Rattle.std.specs.Prelude.{ℕ, List, [], ◌∷◌, map, take, drop, pos, Option, None, Some, option_map, unwrap_or, slice_get}
use Rattle.c_base.specs.declared.integer.IntKind.TheVariants.{Int, Long}
use Rattle.c_types.specs.Types as types
use Rattle.c_types.specs.Types.{CType}
use Rattle.c_types.specs.Views.{type_of}
use Rattle.c_types.specs.Steps.{stepped}
use Rattle.c_typed_expr.specs.Trees.{Lvalue, Variable, Pointed, Temporary, Member, Element, ElementOf, Expr, Number, Convert}
use Rattle.c_typed_expr.specs.Views.{expr_of, root_of, step_of, operand_of as right_of, value_at, logic_run, comma_run, null}
use Rattle.c_typed_expr.specs.declared.expr.TExpr.{TExpr}
use Rattle.c_typed_expr.specs.declared.expr.TLval.{TLval}
use Rattle.c_typed_expr.specs.declared.expr.TOperand.{TOperand}
use Rattle.c_typed_stmt.specs.declared.init.TInit.{TInit}
use Rattle.c_typed_stmt.specs.declared.stmt.TArm.{TArm, fold-TArm}
use Rattle.c_typed_stmt.specs.declared.stmt.TLoop.{TLoop, fold-TLoop}
use Rattle.c_typed_stmt.specs.declared.stmt.TStmt.{TStmt}
use Rattle.c_typed_term.specs.declared.predicate.TPred.{TPred}
use Rattle.c_program.specs.Syntax.{Numbered, Head, Stmt, Expression, Return, If, While, Block, Nothing, Empty, ReturnNothing, DoWhile, For, Switch, Case, Label, Goto, Break, Continue, Initialise, Assert, Stmts}
use Rattle.c_program.specs.Views.{stmt_of, stmt_step, arm_step, block_step, loop_step, laddered}
use Rattle.stepper_shapes.specs.declared.operand.ImpliedType.{ImpliedType}
use Rattle.stepper_shapes.specs.declared.operand.ImpliedType.TheVariants as implied
use Rattle.stepper_shapes.specs.declared.operand.Place.{Place}
use Rattle.stepper_shapes.specs.declared.operand.Statement.{Statement}
use Rattle.stepper_shapes.specs.declared.operand.Statement.TheVariants as statement
use Rattle.stepper_shapes.specs.declared.operand.Operand.{Operand}
use Rattle.stepper_shapes.specs.declared.operand.Operand.TheVariants as operand

abbrev pub implied_of : ImpliedType → CType
implied_of (implied.Given t) = type_of t.now
implied_of (implied.PointerTo t) = types.Pointer (type_of t.now)
implied_of implied.Long = types.Integer Long
implied_of implied.Void = types.Void

abbrev pub zero_expr : Expr
zero_expr = Number Int (pos 0)

-- ---- places

abbrev pub place_in : TLval → ℕ → Lvalue
place_in l n = stepped (map step_of (take n l.steps)) (root_of l.root)

abbrev pub place_of : Place → Lvalue
place_of p = place_in p.lvalue.now p.steps

-- the expression in the last part of a place
abbrev pub inside : Lvalue → Expr
inside (Variable base) = zero_expr
inside (Pointed e t volatile) = e
inside (Temporary e t) = e
inside (Member p c m) = zero_expr
inside (Element p e t n end) = e
inside (ElementOf e p t n end) = e

-- ---- statements

abbrev pub arm_of : TArm TExpr TInit TPred → Stmt → Stmt
arm_of = fold-TArm TExpr TInit TPred Stmt (Stmt → Stmt) (List ℕ × Stmts) Stmt stmt_step arm_step block_step loop_step

abbrev pub loop_of : TLoop TExpr TInit TPred → Stmt
loop_of = fold-TLoop TExpr TInit TPred Stmt (Stmt → Stmt) (List ℕ × Stmts) Stmt stmt_step arm_step block_step loop_step

abbrev pub then_of : Stmt → Stmt
then_of (If id e s t) = s
then_of s = Nothing

abbrev pub then_in : Option (TArm TExpr TInit TPred) → Stmt
then_in None = Nothing
then_in (Some arm) = then_of (arm_of arm Nothing)

-- the parts of a loop around its body, and its body
abbrev pub head_of : Stmt → Head
head_of (While id e s) = record { first = None; id = id; invariants = []; condition = Some e; next = None }
head_of (DoWhile h s) = h
head_of (For h s) = h
head_of s = record { first = None; id = 0; invariants = []; condition = None; next = None }

abbrev pub body_of : Stmt → Stmt
body_of (While id e s) = s
body_of (DoWhile h s) = s
body_of (For h s) = s
body_of s = Nothing

abbrev pub part_of : Option Numbered → Stmt
part_of None = Nothing
part_of (Some n) = Expression n.id n.value

-- the expression that a statement begins with
abbrev pub begins_with : Stmt → Expr
begins_with (Expression id e) = e
begins_with (Return id e) = e
begins_with (If id e s t) = e
begins_with (While id e s) = e
begins_with (DoWhile h s) = unwrap_or h.condition zero_expr
begins_with (For h s) = unwrap_or h.condition zero_expr
begins_with (Switch id e s) = e
begins_with s = zero_expr

abbrev pub statement_of : Statement → Stmt
statement_of (statement.Whole s) = stmt_of s.now
statement_of (statement.Listed all n) = unwrap_or (option_map stmt_of (slice_get all.now n)) Nothing
statement_of (statement.Ladder arms n otherwise) = laddered (map arm_of (drop n arms.now)) (unwrap_or (option_map stmt_of otherwise.now) Nothing)
statement_of (statement.Then arms n) = then_in (slice_get arms.now n)
statement_of (statement.Loop l) = loop_of l.now
statement_of (statement.Body l) = body_of (loop_of l.now)
statement_of (statement.First l) = part_of (head_of (loop_of l.now)).first
statement_of (statement.Next l) = part_of (head_of (loop_of l.now)).next

-- ---- expressions

abbrev pub listed_in : List TExpr → ℕ → Expr
listed_in all n = unwrap_or (option_map expr_of (slice_get all n)) zero_expr

-- what a run's operator has on its right
abbrev pub right_in : Option TOperand → Expr
right_in None = zero_expr
right_in (Some o) = expr_of o.operand

abbrev pub run_of : TExpr → List TOperand → ℕ → Expr
run_of first more n = stepped (map right_of (take n more)) (expr_of first)

abbrev pub converted_by : Option TOperand → Expr → Expr
converted_by None e = e
converted_by (Some o) e = Convert (type_of o.left) e

abbrev pub operand_of : Operand → Expr
operand_of (operand.Whole e) = expr_of e.now
operand_of (operand.Listed all n) = listed_in all.now n
operand_of (operand.Right more n) = right_in (slice_get more.now n)
operand_of (operand.Run first more n) = run_of first.now more.now n
operand_of (operand.Converted first more n) = converted_by (slice_get more.now n) (run_of first.now more.now n)
operand_of (operand.Logic is_and first more n) = logic_run is_and (expr_of first.now) (map expr_of (take n more.now))
operand_of (operand.Comma before n last) = comma_run (map expr_of (drop n before.now)) (expr_of last.now)
operand_of (operand.At t p) = value_at (implied_of t) (place_of p)
operand_of (operand.Inside p) = inside (place_of p)
operand_of (operand.Null t) = null (implied_of t)
operand_of operand.Zero = zero_expr
operand_of (operand.Of s) = begins_with (statement_of s)

-- an expression that was found, and 0 otherwise
abbrev pub first_of : Option TExpr → Expr
first_of None = zero_expr
first_of (Some e) = expr_of e
