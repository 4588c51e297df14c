-- Where expressions, statements and annotations name a function, other than as the function of a direct call. What stands in `sizeof` isn't
-- evaluated, and is no part of a typed program.
use Rattle.std.specs.Prelude.{ℕ, ◌==◌, Bool, false, ◌||◌, List}
use Rattle.std.specs.List.{list_any}
use Rattle.c_base.specs.declared.number.BaseId.{BaseId}
use Rattle.c_types.specs.Compatible.{where_some}
use Rattle.c_typed_term.specs.Terms as term
use Rattle.c_typed_term.specs.Terms.{Term, Place, PointersTo, Relation, Bounds, Predicate, Assigns, Behaviour, Contract}
use Rattle.c_typed_stmt.specs.declared.init.ImageItem.{ImageItem}
use Rattle.c_program.specs.Syntax.{Lvalue, Variable, Pointed, Temporary, Member, Element, ElementOf, Expr, Number, Load, Binary, Assign, LoadCells, AssignCells, Address, Unary, Convert, OnPointers, Logic, Conditional, Compound, Step, Comma, Call, Exprs, NoExpr, NextExpr, Numbered, Head, Item, Value, Content, Stmt, Expression, Return, If, While, Block, Nothing, Empty, ReturnNothing, DoWhile, For, Switch, Case, Label, Goto, Break, Continue, Initialise, Assert, Stmts, Done, Next, Base, Function, Outside, Program}

module _ (f : ℕ) where
  -- ---- expressions

  abbrev mutual
    pub names : Expr → Bool
    names (Number kind n) = false
    names (Load type p) = names_at p
    names (Binary op kind a b) = names a || names b
    names (Assign type p e) = names_at p || names e
    names (LoadCells t p) = names_at p
    names (AssignCells t p e) = names_at p || names e
    names (Address t p) = names_at p
    names (Unary op kind e) = names e
    names (Convert t e) = names e
    names (OnPointers op s t a b) = names a || names b
    names (Logic is_and a b) = names a || names b
    names (Conditional t a b c) = names a || (names b || names c)
    names (Compound op t left right p e) = names_at p || names e
    names (Step up behind t p) = names_at p
    names (Comma a b) = names a || names b
    names (Call site t p arguments) = names_called p || names_some arguments

    pub names_at : Lvalue → Bool
    names_at (Variable base) = base == f
    names_at (Pointed e t volatile) = names e
    names_at (Temporary e t) = names e
    names_at (Member p c m) = names_at p
    names_at (Element p e t n end) = names_at p || names e
    names_at (ElementOf e p t n end) = names e || names_at p

    -- in the function of a call, where it isn't the function itself
    pub names_called : Lvalue → Bool
    names_called (Variable base) = false
    names_called (Pointed e t volatile) = names e
    names_called (Temporary e t) = names e
    names_called (Member p c m) = names_at p
    names_called (Element p e t n end) = names_at p || names e
    names_called (ElementOf e p t n end) = names e || names_at p

    pub names_some : Exprs → Bool
    names_some NoExpr = false
    names_some (NextExpr e more) = names e || names_some more

  -- ---- initial contents

  abbrev pub is_base : BaseId → Bool
  is_base b = b.0 == f

  abbrev pub image_item_names : ImageItem → Bool
  image_item_names i = where_some is_base i.base

  abbrev pub image_names : List ImageItem → Bool
  image_names = list_any image_item_names

  -- ---- annotations

  abbrev mutual
    pub term_names : Term → Bool
    term_names (term.Number n) = false
    term_names (term.Bound depth) = false
    term_names term.Null = false
    term_names (term.Negate t) = term_names t
    term_names (term.Operator op sort s t) = term_names s || term_names t
    term_names (term.Value t p) = place_names p
    term_names (term.Address t p) = place_names p
    term_names (term.Cast kind t) = term_names t
    term_names (term.At when t) = term_names t

    pub place_names : Place → Bool
    place_names (term.Object base) = base == f
    place_names (term.Formal base) = false
    place_names (term.Pointed t type) = term_names t
    place_names (term.Result type) = false
    place_names (term.Slot n type) = false
    place_names (term.Member p c m) = place_names p
    place_names (term.Element p t type n) = place_names p || term_names t

  abbrev pub range_names : Term × Term → Bool
  range_names r = term_names r.0 || term_names r.1

  abbrev pub pointers_name : PointersTo → Bool
  pointers_name p = term_names p.first || where_some range_names p.range

  abbrev pub relation_names : Relation → Bool
  relation_names r = term_names r.right

  abbrev pub bounds_name : Bounds → Bool
  bounds_name b = term_names b.low || term_names b.high

  abbrev pub predicate_names : Predicate → Bool
  predicate_names (term.Truth t) = false
  predicate_names (term.Related first more) = term_names first || list_any relation_names more
  predicate_names (term.Not p) = predicate_names p
  predicate_names (term.And p q) = predicate_names p || predicate_names q
  predicate_names (term.Or p q) = predicate_names p || predicate_names q
  predicate_names (term.Implies p q) = predicate_names p || predicate_names q
  predicate_names (term.Equivalent p q) = predicate_names p || predicate_names q
  predicate_names (term.Choice t p q) = term_names t || (predicate_names p || predicate_names q)
  predicate_names (term.Access sort pointers) = pointers_name pointers
  predicate_names (term.Separated all) = list_any pointers_name all
  predicate_names (term.ForAll b p) = bounds_name b || predicate_names p
  predicate_names (term.Exists b p) = bounds_name b || predicate_names p

  abbrev pub assigns_name : Assigns → Bool
  assigns_name a = list_any pointers_name a.locations || where_some (list_any term_names) a.sources

  abbrev pub behaviour_names : Behaviour → Bool
  behaviour_names b =
      list_any predicate_names b.assumptions || (list_any predicate_names b.preconditions || list_any predicate_names b.postconditions)

  abbrev pub contract_names : Contract → Bool
  contract_names c =
      list_any predicate_names c.preconditions
      || (list_any assigns_name c.assigns || (list_any predicate_names c.postconditions || list_any behaviour_names c.behaviours))

  -- ---- statements

  abbrev pub numbered_names : Numbered → Bool
  numbered_names n = names n.value

  abbrev pub head_names : Head → Bool
  head_names h =
      where_some numbered_names h.first
      || (list_any predicate_names h.invariants || (where_some names h.condition || where_some numbered_names h.next))

  abbrev pub item_names : Item → Bool
  item_names (Value t p e) = names_at p || names e
  item_names (Content image) = image_names image

  abbrev mutual
    pub stmt_names : Stmt → Bool
    stmt_names (Expression id e) = names e
    stmt_names (Return id e) = names e
    stmt_names (If id e s t) = names e || (stmt_names s || stmt_names t)
    stmt_names (While id e s) = names e || stmt_names s
    stmt_names (Block bases stmts) = stmts_name stmts
    stmt_names Nothing = false
    stmt_names (Empty id) = false
    stmt_names (ReturnNothing id) = false
    stmt_names (DoWhile h s) = head_names h || stmt_names s
    stmt_names (For h s) = head_names h || stmt_names s
    stmt_names (Switch id e s) = names e || stmt_names s
    stmt_names (Case value s) = stmt_names s
    stmt_names (Label name s) = stmt_names s
    stmt_names (Goto id name) = false
    stmt_names (Break id) = false
    stmt_names (Continue id) = false
    stmt_names (Initialise id base cleared items) = image_names cleared || list_any item_names items
    stmt_names (Assert id p) = predicate_names p

    pub stmts_name : Stmts → Bool
    stmts_name Done = false
    stmts_name (Next s more) = stmt_names s || stmts_name more

  -- ---- programs

  abbrev pub function_names : Function → Bool
  function_names g = stmts_name g.body || where_some contract_names g.contract

  abbrev pub outside_names : Outside → Bool
  outside_names g = where_some contract_names g.contract

  abbrev pub base_names : Base → Bool
  base_names b = where_some image_names b.image

  -- the program names the function other than as the function of a direct call
  abbrev pub is_named : Program → Bool
  is_named p = list_any function_names p.functions || (list_any outside_names p.outside || list_any base_names p.bases)
