-- The plain programs that the code's programs stand for.
use Rattle.std.specs.Prelude.{ℕ, Bool, List, [], ◌∷◌, ◌++◌, map, Option, None, Some, option_map, unwrap_or, slice_get}
use Rattle.c_base.specs.declared.integer.Machine.{Machine}
use Rattle.c_base.specs.declared.number.BaseId.{BaseId}
use Rattle.c_memory.specs.declared.scalar.Scalar.TheVariants as scalar
use Rattle.c_types.specs.Types.{CType, CTypes, Void as void, Integer, Pointer, Array, Composite, Function as function, Composite'}
use Rattle.c_types.specs.Sizes.{size}
use Rattle.c_types.specs.Views.{type_of, composite_of}
use Rattle.c_types.specs.Compatible.{signature_of}
use Rattle.c_typed_expr.specs.declared.expr.TExpr.{TExpr}
use Rattle.c_typed_expr.specs.Views.{expr_of, lvalue_of}
use Rattle.c_typed_term.specs.Terms.{Predicate}
use Rattle.c_typed_term.specs.declared.predicate.TPred.{TPred}
use Rattle.c_typed_term.specs.Views.{predicate_of, contract_of}
use Rattle.c_typed_stmt.specs.declared.init.TInit.{TInit}
use Rattle.c_typed_stmt.specs.declared.init.TInitItem.{TInitItem}
use Rattle.c_typed_stmt.specs.declared.init.TInitItem.TheVariants as item
use Rattle.c_typed_stmt.specs.declared.stmt.LoopSort.{LoopSort}
use Rattle.c_typed_stmt.specs.declared.stmt.LoopSort.TheVariants as sort
use Rattle.c_typed_stmt.specs.declared.stmt.Numbered.{Numbered as CodeNumbered}
use Rattle.c_typed_stmt.specs.declared.stmt.TStmt.{TStmt, fold-TStmt}
use Rattle.c_typed_stmt.specs.declared.stmt.TStmt.TheOpen.{TStmt-F, TArm-F, TBlock-F, TLoop-F}
use Rattle.c_typed_stmt.specs.declared.stmt.TBlock.{TBlock, fold-TBlock}
use Rattle.c_program.specs.declared.program.Base.{Base as CodeBase}
use Rattle.c_program.specs.declared.program.Function.{Function as CodeFunction}
use Rattle.c_program.specs.declared.program.StmtPlace.{StmtPlace}
use Rattle.c_program.specs.declared.program.TypedProgram.{TypedProgram}
use Rattle.c_program.specs.Syntax.{Expr, Numbered, Head, Item, Value, Content, Stmt, Expression, Return, If, While, Block, Nothing, Empty, ReturnNothing, DoWhile, For, Switch, Case, Label, Goto, Break, Continue, Initialise, Assert, Stmts, Done, Next, Base, ResultType, Void, Returns, ReturnsCells, Function, Outside, Program, base_at}

abbrev pub number_of : BaseId → ℕ
number_of b = b.0

-- ---- statements

abbrev pub numbered_of : CodeNumbered TExpr → Numbered
numbered_of n = record { id = n.id.0; value = expr_of n.value }

abbrev pub item_of : TInitItem → Item
item_of (item.Value place t e) = Value (type_of t) (lvalue_of place) (expr_of e)
item_of (item.Text image) = Content image

abbrev pub listed : List Stmt → Stmts
listed [] = Done
listed (s ∷ more) = Next s (listed more)

-- each `if` of a ladder stands behind the `else` of the one before
abbrev pub laddered : List (Stmt → Stmt) → Stmt → Stmt
laddered [] otherwise = otherwise
laddered (arm ∷ more) otherwise = arm (laddered more otherwise)

abbrev pub returned : ℕ → Option Expr → Stmt
returned id None = ReturnNothing id
returned id (Some e) = Return id e

-- a `while` without invariants has a form of its own
abbrev pub while_of : Head → Stmt → Stmt
while_of h body = by_parts h.first h.invariants h.condition h.next
  where
    by_parts : Option Numbered → List Predicate → Option Expr → Option Numbered → Stmt
    by_parts None [] (Some e) None = While h.id e body
    by_parts first invariants condition next = For h body

abbrev pub loop_of : LoopSort → Head → Stmt → Stmt
loop_of sort.While h body = while_of h body
loop_of sort.Do h body = DoWhile h body
loop_of sort.For h body = For h body

-- one level, with each statement inside already seen as its tree: an arm takes what stands behind its `else`
abbrev pub stmt_step : TStmt-F TExpr TInit TPred Stmt (Stmt → Stmt) (List ℕ × Stmts) Stmt → Stmt
stmt_step (TStmt-F.Expr id e) = Expression id.0 (expr_of e)
stmt_step (TStmt-F.Init id base init) = Initialise id.0 base.0 init.cleared (map item_of init.items)
stmt_step (TStmt-F.Block block) = Block block.0 block.1
stmt_step (TStmt-F.If arms otherwise) = laddered arms (unwrap_or otherwise Nothing)
stmt_step (TStmt-F.Loop body) = body
stmt_step (TStmt-F.Switch id e body) = Switch id.0 (expr_of e) body
stmt_step (TStmt-F.Case value body) = Case value body
stmt_step (TStmt-F.Label name body) = Label name body
stmt_step (TStmt-F.Goto id name) = Goto id.0 name
stmt_step (TStmt-F.Break id) = Break id.0
stmt_step (TStmt-F.Continue id) = Continue id.0
stmt_step (TStmt-F.Return id value) = returned id.0 (option_map expr_of value)
stmt_step (TStmt-F.Empty id) = Empty id.0
stmt_step (TStmt-F.Assert id predicate) = Assert id.0 (predicate_of predicate)

abbrev pub arm_step : TArm-F TExpr TInit TPred Stmt (Stmt → Stmt) (List ℕ × Stmts) Stmt → Stmt → Stmt
arm_step a otherwise = If a.id.0 (expr_of a.cond) a.body otherwise

abbrev pub block_step : TBlock-F TExpr TInit TPred Stmt (Stmt → Stmt) (List ℕ × Stmts) Stmt → List ℕ × Stmts
block_step b = (map number_of b.locals, listed b.stmts)

abbrev pub loop_step : TLoop-F TExpr TInit TPred Stmt (Stmt → Stmt) (List ℕ × Stmts) Stmt → Stmt
loop_step l = loop_of l.sort (record {
  first = option_map numbered_of l.first;
  id = l.id.0;
  invariants = map predicate_of l.invariants;
  condition = option_map expr_of l.cond;
  next = option_map numbered_of l.next;
}) l.body

abbrev pub stmt_of : TStmt TExpr TInit TPred → Stmt
stmt_of = fold-TStmt TExpr TInit TPred Stmt (Stmt → Stmt) (List ℕ × Stmts) Stmt stmt_step arm_step block_step loop_step

-- the objects of a block, and its statements
abbrev pub block_of : TBlock TExpr TInit TPred → List ℕ × Stmts
block_of = fold-TBlock TExpr TInit TPred Stmt (Stmt → Stmt) (List ℕ × Stmts) Stmt stmt_step arm_step block_step loop_step

-- ---- programs

abbrev pub base_of : CodeBase → Base
base_of b = record {
  name = b.name;
  size = b.size;
  sort = b.sort;
  readonly = b.readonly;
  ctype = type_of b.ctype;
  volatile = b.volatile;
  image = b.image;
  named = b.named;
}

-- what a call of a function has that gives this type
abbrev pub result_in : List Composite' → Machine → CType → ResultType
result_in composites machine void = Void
result_in composites machine (Integer kind) = Returns (scalar.Integer kind)
result_in composites machine (Pointer to) = Returns scalar.Pointer
result_in composites machine (Array of count) = ReturnsCells (size composites machine (Array of count))
result_in composites machine (Composite number) = ReturnsCells (size composites machine (Composite number))
result_in composites machine (function result params variadic) = ReturnsCells 0

abbrev pub result_by : List Composite' → Machine → Option (CType × CTypes × Bool) → ResultType
result_by composites machine None = Void
result_by composites machine (Some s) = result_in composites machine s.0

-- what a call of the function at a base has
abbrev pub result_at : List Composite' → Machine → Option Base → ResultType
result_at composites machine None = Void
result_at composites machine (Some b) = result_by composites machine (signature_of b.ctype)

module _ (composites : List Composite') (machine : Machine) (bases : List Base) where
  abbrev pub with_body : CodeFunction → Option (TBlock TExpr TInit TPred) → List Function
  with_body f None = []
  with_body f (Some body) = record {
    base = f.base.0;
    result = result_at composites machine (base_at bases f.base.0);
    formals = map number_of f.formals;
    locals = (block_of body).0;
    body = (block_of body).1;
    end = f.end.0;
    contract = option_map contract_of f.contract;
  } ∷ []

  abbrev pub functions_in : List CodeFunction → List Function
  functions_in [] = []
  functions_in (f ∷ more) = with_body f f.body ++ functions_in more

abbrev pub without_body : CodeFunction → Option (TBlock TExpr TInit TPred) → List Outside
without_body f None = record { base = f.base.0; contract = option_map contract_of f.contract } ∷ []
without_body f (Some body) = []

abbrev pub outside_in : List CodeFunction → List Outside
outside_in [] = []
outside_in (f ∷ more) = without_body f f.body ++ outside_in more

abbrev pub program_of : TypedProgram → Program
program_of p = record {
  machine = p.machine;
  bases = map base_of p.bases;
  functions = functions_in (map composite_of p.comps) p.machine (map base_of p.bases) p.functions;
  entry = p.entry.0;
  spans = map (λ s. s.span) p.statements;
  composites = map composite_of p.comps;
  outside = outside_in p.functions;
  owners = map (λ s. s.function.0) p.statements;
  lib_entry = p.lib_entry;
  marks = p.marks;
}
