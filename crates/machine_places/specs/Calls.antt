-- The calls that stand in a function's body.
use Rattle.std.specs.Prelude.{ℕ, List, [], ◌∷◌, ◌++◌, Option, None, Some}
use Rattle.c_program.specs.Syntax.{Lvalue, Variable, Pointed, Temporary, Member, Element, ElementOf, Expr, Number, Load, Binary, Assign, LoadCells, AssignCells, Address, Unary, Convert, OnPointers, Logic, Conditional, Compound, Step, Comma, Call, Exprs, NoExpr, NextExpr, Numbered, Item, Value, Content, Stmt, Expression, Return, If, While, Block, Nothing, Empty, ReturnNothing, DoWhile, For, Switch, Case, Label, Goto, Break, Continue, Initialise, Assert, Stmts, Done, Next}

-- a call in the source: the number of its site, and the lvalue that it calls
pub record CallSite : Type 0 where
  pub site : ℕ
  pub called : Lvalue

abbrev mutual
  pub calls_of : Expr → List CallSite
  calls_of (Number kind n) = []
  calls_of (Load type q) = calls_at q
  calls_of (Binary op kind a b) = calls_of a ++ calls_of b
  calls_of (Assign type q e) = calls_at q ++ calls_of e
  calls_of (LoadCells t q) = calls_at q
  calls_of (AssignCells t q e) = calls_at q ++ calls_of e
  calls_of (Address t q) = calls_at q
  calls_of (Unary op kind e) = calls_of e
  calls_of (Convert t e) = calls_of e
  calls_of (OnPointers op s t a b) = calls_of a ++ calls_of b
  calls_of (Logic is_and a b) = calls_of a ++ calls_of b
  calls_of (Conditional t a b c) = calls_of a ++ (calls_of b ++ calls_of c)
  calls_of (Compound op t left right q e) = calls_at q ++ calls_of e
  calls_of (Step up behind t q) = calls_at q
  calls_of (Comma a b) = calls_of a ++ calls_of b
  calls_of (Call site t q arguments) = record { site = site; called = q } ∷ (calls_at q ++ calls_among arguments)

  pub calls_at : Lvalue → List CallSite
  calls_at (Variable base) = []
  calls_at (Pointed e t volatile) = calls_of e
  calls_at (Temporary e t) = calls_of e
  calls_at (Member q c m) = calls_at q
  calls_at (Element q e t n end) = calls_at q ++ calls_of e
  calls_at (ElementOf e q t n end) = calls_of e ++ calls_at q

  pub calls_among : Exprs → List CallSite
  calls_among NoExpr = []
  calls_among (NextExpr e more) = calls_of e ++ calls_among more

-- a condition, where there is one
abbrev pub condition_calls : Option Expr → List CallSite
condition_calls None = []
condition_calls (Some e) = calls_of e

-- the first or the third part of a `for`
abbrev pub part_calls : Option Numbered → List CallSite
part_calls None = []
part_calls (Some n) = calls_of n.value

abbrev pub item_calls : List Item → List CallSite
item_calls [] = []
item_calls (Value t q e ∷ more) = calls_at q ++ (calls_of e ++ item_calls more)
item_calls (Content image ∷ more) = item_calls more

-- the calls in a statement and in those in it; a `do` has a condition alone
abbrev mutual
  pub calls_in : Stmt → List CallSite
  calls_in (Expression id e) = calls_of e
  calls_in (Return id e) = calls_of e
  calls_in (If id e s t) = calls_of e ++ (calls_in s ++ calls_in t)
  calls_in (While id e s) = calls_of e ++ calls_in s
  calls_in (Block bases stmts) = all_calls stmts
  calls_in Nothing = []
  calls_in (Empty id) = []
  calls_in (ReturnNothing id) = []
  calls_in (DoWhile h s) = calls_in s ++ condition_calls h.condition
  calls_in (For h s) = part_calls h.first ++ (condition_calls h.condition ++ (part_calls h.next ++ calls_in s))
  calls_in (Switch id e s) = calls_of e ++ calls_in s
  calls_in (Case value s) = calls_in s
  calls_in (Label name s) = calls_in s
  calls_in (Goto id name) = []
  calls_in (Break id) = []
  calls_in (Continue id) = []
  calls_in (Initialise id base cleared items) = item_calls items
  calls_in (Assert id predicate) = []

  pub all_calls : Stmts → List CallSite
  all_calls Done = []
  all_calls (Next s more) = calls_in s ++ all_calls more
