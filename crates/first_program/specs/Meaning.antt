-- The typed program that a `Program` of the source stands for.
use Rattle.std.specs.Prelude.{ℕ, suc, ◌+◌, true, false, List, [], ◌∷◌, length, pos, map, None}
use Rattle.c_base.specs.declared.operators.BinOp.{BinOp}
use Rattle.c_base.specs.declared.operators.BinOp.TheVariants.{Add, Sub, Lt, Le, Gt, Ge, Eq, Ne}
use Rattle.c_base.specs.declared.integer.IntKind.TheVariants.{Int}
use Rattle.c_base.specs.declared.integer.Machine.TheVariants.{Lp64}
use Rattle.c_memory.specs.declared.scalar.Scalar.{Scalar}
use Rattle.c_memory.specs.declared.scalar.Scalar.TheVariants.{Integer}
use Rattle.c_types.specs.Types as types
use Rattle.c_program.specs.declared.base.BaseSort.TheVariants.{Local, Func}
use Rattle.first_program.specs.declared.tree.Sign.{Sign}
use Rattle.first_program.specs.declared.tree.Sign.TheVariants.{Plus, Minus}
use Rattle.c_base.specs.declared.operators.Rel.{Rel}
use Rattle.c_base.specs.declared.operators.Rel.TheVariants.{Lt as RelLt, Le as RelLe, Gt as RelGt, Ge as RelGe, Eq as RelEq, Ne as RelNe}
use Rattle.first_program.specs.Source.{Sum, Number as SumNumber, Variable as SumVariable, Parenthesised, Run, Addends, End, Then, Test, Compare, Enclosed, Stmt as SourceStmt, Assign as SourceAssign, Return as SourceReturn, If as SourceIf, While as SourceWhile, Block as SourceBlock, Nothing as SourceNothing, Stmts as SourceStmts, Done as SourceDone, Next as SourceNext, Program as SourceProgram, count, count_all}
use Rattle.c_program.specs.Syntax.{Variable, Expr, Number, Load, Binary, Assign, Stmt, Expression, Return, If, While, Block, Nothing, Stmts, Done, Next, Returns, Base, Function, Program, numbers_from}

-- the one type of the language
abbrev pub int_type : Scalar
int_type = Integer Int

abbrev pub sign_op : Sign → BinOp
sign_op Plus = Add
sign_op Minus = Sub

-- a run of additions and subtractions groups from the left (C11 6.5.6)
abbrev mutual
  pub sum_expr : Sum → Expr
  sum_expr (SumNumber n) = Number Int (pos n)
  sum_expr (SumVariable base) = Load int_type (Variable base.0)
  sum_expr (Parenthesised s) = sum_expr s
  sum_expr (Run s more) = run_expr (sum_expr s) more

  pub run_expr : Expr → Addends → Expr
  run_expr left End = left
  run_expr left (Then sign s more) = run_expr (Binary (sign_op sign) Int left (sum_expr s)) more

abbrev pub relation_op : Rel → BinOp
relation_op RelLt = Lt
relation_op RelLe = Le
relation_op RelGt = Gt
relation_op RelGe = Ge
relation_op RelEq = Eq
relation_op RelNe = Ne

abbrev pub test_expr : Test → Expr
test_expr (Compare left relation right) = Binary (relation_op relation) Int (sum_expr left) (sum_expr right)
test_expr (Enclosed t) = test_expr t

-- statements, numbered from `id`
abbrev mutual
  pub stmt_of : ℕ → SourceStmt → Stmt
  stmt_of id (SourceAssign target value) = Expression id (Assign int_type (Variable target.0) (sum_expr value))
  stmt_of id (SourceReturn value) = Return id (sum_expr value)
  stmt_of id (SourceIf test s t) = If id (test_expr test) (stmt_of (suc id) s) (stmt_of (suc id + count s) t)
  stmt_of id (SourceWhile test s) = While id (test_expr test) (stmt_of (suc id) s)
  stmt_of id (SourceBlock stmts) = Block [] (stmts_of id stmts)
  stmt_of id SourceNothing = Nothing

  pub stmts_of : ℕ → SourceStmts → Stmts
  stmts_of id SourceDone = Done
  stmts_of id (SourceNext s more) = Next (stmt_of id s) (stmts_of (id + count s) more)

abbrev pub variable_base : List ℕ → Base
variable_base name = record {
  name = name;
  size = 4;
  sort = Local;
  readonly = false;
  ctype = types.Integer Int;
  volatile = false;
  image = None;
  named = false;
}

-- the name `main`
abbrev pub main_name : List ℕ
main_name = 109 ∷ 97 ∷ 105 ∷ 110 ∷ []

-- `int main(void)`
abbrev pub main_base : Base
main_base = record {
  name = main_name;
  size = 1;
  sort = Func;
  readonly = true;
  ctype = types.Function (types.Integer Int) types.Nil false;
  volatile = false;
  image = None;
  named = false;
}

abbrev pub bases_of : List (List ℕ) → List Base
bases_of variables = main_base ∷ map variable_base variables

abbrev pub main_of : SourceProgram → Function
main_of p = record {
  base = 0;
  result = Returns int_type;
  formals = [];
  locals = numbers_from 1 (length p.variables);
  body = stmts_of 1 p.body;
  end = suc (count_all p.body);
  contract = None;
}

abbrev pub meaning_of : SourceProgram → Program
meaning_of p = record {
  machine = Lp64;
  bases = bases_of p.variables;
  functions = main_of p ∷ [];
  entry = 0;
  spans = p.spans;
  composites = [];
  outside = [];
  owners = map (λ span. 0) p.spans;
  lib_entry = false;
  marks = [];
}
