-- Programs of the language that is read so far, as plain trees.
use Rattle.std.specs.Prelude.{ℕ, suc, ◌+◌, List}
use Rattle.c_base.specs.declared.number.BaseId.{BaseId}
use Rattle.c_base.specs.declared.number.Span.{Span}
use Rattle.c_base.specs.declared.operators.Rel.{Rel}
use Rattle.first_program.specs.declared.tree.Sign.{Sign}

mutual
  -- A number, a variable, a sum in parentheses, or a run of additions and subtractions from the left (C11 6.5.6).
  pub data Sum : Type 0 where
    Number : ℕ → Sum
    Variable : BaseId → Sum
    Parenthesised : Sum → Sum
    Run : Sum → Addends → Sum

  -- what a run goes on with
  pub data Addends : Type 0 where
    End : Addends
    Then : Sign → Sum → Addends → Addends

-- a comparison of two sums (C11 6.5.8 and 6.5.9), or a test in parentheses
pub data Test : Type 0 where
  Compare : Sum → Rel → Sum → Test
  Enclosed : Test → Test

mutual
  -- A statement. A ladder of `if`s is nested in the places of the `else`s; `Nothing` stands where an `if` has no `else`.
  pub data Stmt : Type 0 where
    Assign : BaseId → Sum → Stmt
    Return : Sum → Stmt
    If : Test → Stmt → Stmt → Stmt
    While : Test → Stmt → Stmt
    Block : Stmts → Stmt
    Nothing : Stmt

  pub data Stmts : Type 0 where
    Done : Stmts
    Next : Stmt → Stmts → Stmts

-- the names of the variables, the statements of `main`, and the places of the numbered statements and of the closing brace
pub record Program : Type 0 where
  pub variables : List (List ℕ)
  pub body : Stmts
  pub spans : List Span

-- how many numbered statements a statement has: all but blocks
abbrev mutual
  pub count : Stmt → ℕ
  count (Assign target value) = 1
  count (Return value) = 1
  count (If test s t) = suc (count s + count t)
  count (While test s) = suc (count s)
  count (Block stmts) = count_all stmts
  count Nothing = 0

  pub count_all : Stmts → ℕ
  count_all Done = 0
  count_all (Next s more) = count s + count_all more
