-- What one level of a statement stands for.
use Rattle.std.specs.Prelude.{Bool, true, false, List, [], ◌∷◌, map}
use Rattle.c_typed_term.specs.Views.{predicate_of}
use Rattle.c_program.specs.Syntax.{Stmt, Expression, Return, If, While, Block, Nothing, Empty, ReturnNothing, DoWhile, For, Switch, Case, Label, Goto, Break, Continue, Initialise, Assert}
use Rattle.c_program.specs.Views.{stmt_of, listed, number_of, item_of}
use Rattle.stepper_shapes.specs.Views.{loop_of, head_of, body_of, begins_with, operand_of, statement_of}
use Rattle.stepper_statements.specs.declared.stmt_shape.StmtShape.{StmtShape}
use Rattle.stepper_statements.specs.declared.stmt_shape.StmtShape.TheVariants as shape

abbrev pub stmt_shape_of : StmtShape → Stmt
stmt_shape_of (shape.Expression id e) = Expression id (operand_of e)
stmt_shape_of (shape.Return id e) = Return id (operand_of e)
stmt_shape_of (shape.ReturnNothing id) = ReturnNothing id
stmt_shape_of (shape.If id e then otherwise) = If id (operand_of e) (statement_of then) (statement_of otherwise)
stmt_shape_of (shape.While l) = While (head_of (loop_of l.now)).id (begins_with (loop_of l.now)) (body_of (loop_of l.now))
stmt_shape_of (shape.DoWhile l) = DoWhile (head_of (loop_of l.now)) (body_of (loop_of l.now))
stmt_shape_of (shape.For l) = For (head_of (loop_of l.now)) (body_of (loop_of l.now))
stmt_shape_of (shape.Block locals stmts) = Block (map number_of locals.now) (listed (map stmt_of stmts.now))
stmt_shape_of shape.Nothing = Nothing
stmt_shape_of (shape.Empty id) = Empty id
stmt_shape_of (shape.Switch id e body) = Switch id (operand_of e) (stmt_of body.now)
stmt_shape_of (shape.Case value body) = Case value (stmt_of body.now)
stmt_shape_of (shape.Label name body) = Label name.now (stmt_of body.now)
stmt_shape_of (shape.Goto id name) = Goto id name.now
stmt_shape_of (shape.Break id) = Break id
stmt_shape_of (shape.Continue id) = Continue id
stmt_shape_of (shape.Initialise id base cleared items) = Initialise id base cleared.now (map item_of items.now)
stmt_shape_of (shape.Assert id predicate) = Assert id (predicate_of predicate.now)

abbrev pub is_nil : {A : Type 0} → List A → Bool
is_nil [] = true
is_nil (x ∷ xs) = false
