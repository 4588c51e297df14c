-- The plain trees that the code's trees stand for.
use Rattle.std.specs.Prelude.{ℕ, ◌<◌, ◌≤◌, ◌≡◌, ◌^◌, ◌-◌, suc, List, [], ◌∷◌, length, map, Option, None, Some}
use Rattle.c_base.specs.declared.number.BaseId.{BaseId}
use Rattle.first_program.specs.declared.tree.Addend.{Addend as CodeAddend, fold-Addend}
use Rattle.first_program.specs.declared.tree.Program.{Program as CodeProgram}
use Rattle.first_program.specs.declared.tree.Sign.{Sign}
use Rattle.first_program.specs.declared.tree.Stmt.{Stmt as CodeStmt, fold-Stmt}
use Rattle.first_program.specs.declared.tree.Stmt.TheOpen.{Stmt-F, Arm-F}
use Rattle.first_program.specs.declared.tree.Sum.{Sum as CodeSum, fold-Sum}
use Rattle.first_program.specs.declared.tree.Sum.TheOpen.{Sum-F, Addend-F}
use Rattle.first_program.specs.declared.tree.Test.{Test as CodeTest, fold-Test}
use Rattle.first_program.specs.declared.tree.Test.TheOpen.{Test-F}
use Rattle.first_program.specs.Source.{Sum, Number, Variable, Parenthesised, Run, Addends, End, Then, Test, Compare, Enclosed, Stmt, Assign, Return, If, While, Block, Nothing, Stmts, Done, Next, Program, count_all}

-- ---- sums and tests

abbrev pub addends : List (Sign × Sum) → Addends
addends [] = End
addends (a ∷ more) = Then a.0 a.1 (addends more)

-- one level, with each sum inside already seen as its tree
abbrev pub addend_step : Addend-F Sum (Sign × Sum) → Sign × Sum
addend_step a = (a.sign, a.operand)

abbrev pub sum_step : Sum-F Sum (Sign × Sum) → Sum
sum_step (Sum-F.Number n) = Number n
sum_step (Sum-F.Variable base) = Variable base
sum_step (Sum-F.Parenthesised inner) = Parenthesised inner
sum_step (Sum-F.Run first more) = Run first (addends more)

abbrev pub sum_tree : CodeSum → Sum
sum_tree = fold-Sum Sum (Sign × Sum) sum_step addend_step

abbrev pub addend_tree : CodeAddend → Sign × Sum
addend_tree = fold-Addend Sum (Sign × Sum) sum_step addend_step

abbrev pub test_step : Test-F Test → Test
test_step (Test-F.Compare left relation right) = Compare (sum_tree left) relation (sum_tree right)
test_step (Test-F.Parenthesised inner) = Enclosed inner

abbrev pub test_tree : CodeTest → Test
test_tree = fold-Test Test test_step

-- ---- statements

abbrev pub listed : List Stmt → Stmts
listed [] = Done
listed (s ∷ more) = Next s (listed more)

-- what the last `else` of a ladder has
abbrev pub otherwise_of : Option Stmt → Stmt
otherwise_of None = Nothing
otherwise_of (Some s) = s

-- a ladder, nested
abbrev pub ladder : List (Test × Stmt) → Stmt → Stmt
ladder [] last = last
ladder (a ∷ more) last = If a.0 a.1 (ladder more last)

-- one level, with each statement inside already seen as its tree
abbrev pub arm_step : Arm-F Stmt (Test × Stmt) → Test × Stmt
arm_step a = (test_tree a.test, a.body)

abbrev pub stmt_step : Stmt-F Stmt (Test × Stmt) → Stmt
stmt_step (Stmt-F.Assign target value) = Assign target (sum_tree value)
stmt_step (Stmt-F.Return value) = Return (sum_tree value)
stmt_step (Stmt-F.If arms otherwise) = ladder arms (otherwise_of otherwise)
stmt_step (Stmt-F.While test body) = While (test_tree test) body
stmt_step (Stmt-F.Block stmts) = Block (listed stmts)

abbrev pub tree_of : CodeStmt → Stmt
tree_of = fold-Stmt Stmt (Test × Stmt) stmt_step arm_step

abbrev pub trees_of : List CodeStmt → Stmts
trees_of stmts = listed (map tree_of stmts)

abbrev pub program_of : CodeProgram → Program
program_of p = record { variables = p.variables; body = trees_of p.body; spans = p.spans }

-- ---- what a program names is there

abbrev pub IsDeclared : ℕ → BaseId → Type 0
IsDeclared variables base = (1 ≤ base.0) × (base.0 ≤ variables)

abbrev mutual
  pub IsSumShaped : ℕ → Sum → Type 0
  IsSumShaped variables (Number n) = n ≤ 2147483647
  IsSumShaped variables (Variable base) = IsDeclared variables base
  IsSumShaped variables (Parenthesised s) = IsSumShaped variables s
  IsSumShaped variables (Run s more) = IsSumShaped variables s × AreAddendsShaped variables more

  pub AreAddendsShaped : ℕ → Addends → Type 0
  AreAddendsShaped variables End = Unit {0}
  AreAddendsShaped variables (Then sign s more) = IsSumShaped variables s × AreAddendsShaped variables more

abbrev pub IsTestShaped : ℕ → Test → Type 0
IsTestShaped variables (Compare left relation right) = IsSumShaped variables left × IsSumShaped variables right
IsTestShaped variables (Enclosed t) = IsTestShaped variables t

abbrev mutual
  pub IsStmtShaped : ℕ → Stmt → Type 0
  IsStmtShaped variables (Assign target value) = (1 ≤ target.0) × (target.0 ≤ variables) × IsSumShaped variables value
  IsStmtShaped variables (Return value) = IsSumShaped variables value
  IsStmtShaped variables (If test s t) = IsTestShaped variables test × IsStmtShaped variables s × IsStmtShaped variables t
  IsStmtShaped variables (While test s) = IsTestShaped variables test × IsStmtShaped variables s
  IsStmtShaped variables (Block stmts) = AreStmtsShaped variables stmts
  IsStmtShaped variables Nothing = Unit {0}

  pub AreStmtsShaped : ℕ → Stmts → Type 0
  AreStmtsShaped variables Done = Unit {0}
  AreStmtsShaped variables (Next s more) = IsStmtShaped variables s × AreStmtsShaped variables more

-- a program names only variables that it has, and each statement and the closing brace have a place
pub record IsShaped (p : Program) : Type 0 where
  pub places : length p.spans ≡ suc (count_all p.body)
  pub few : count_all p.body < 200000
  pub variables : length p.variables < 2 ^ 32 - 1
  pub stmts : AreStmtsShaped (length p.variables) p.body
