-- Which functions a call may enter, as far as types tell, and which functions so call each other.
use Rattle.std.specs.Prelude.{ℕ, suc, ◌+◌, ◌<◌, ◌≡◌, ◌⊎◌, Bool, true, false, IsTrue, cond, ◌&&◌, List, [], ◌∷◌, Option, None, Some}
use Rattle.c_types.specs.Types.{CType}
use Rattle.c_types.specs.Compatible.{is_compatible, signature_of}
use Rattle.c_program.specs.declared.base.BaseSort.{BaseSort}
use Rattle.c_program.specs.declared.base.BaseSort.TheVariants.{Func}
use Rattle.c_program.specs.Syntax.{Lvalue, Variable, Pointed, Temporary, Member, Element, ElementOf, Expr, Number, Load, Binary, Assign, LoadCells, AssignCells, Address, Unary, Convert, OnPointers, Logic, Conditional, Compound, Step, Comma, Call, Exprs, NoExpr, NextExpr, Numbered, Head, Item, Value, Content, Stmt, Expression, Return, If, While, Block, Nothing, Empty, ReturnNothing, DoWhile, For, Switch, Case, Label, Goto, Break, Continue, Initialise, Assert, Stmts, Done, Next, Base, base_at, Function, function_at, Program}
use Rattle.c_program.specs.Names.{is_named}

abbrev pub is_func : BaseSort → Bool
is_func Func = true
is_func sort = false

-- the base is a function of a type that is compatible with this one (C11 6.2.7)
abbrev pub is_function_of : CType → Option Base → Bool
is_function_of t None = false
is_function_of t (Some b) = is_func b.sort && is_compatible b.ctype t

-- a call by a pointer to a function of this type may enter the function: its type is compatible, and its name is used otherwise than as the
-- function of a direct call
abbrev pub may_enter : Program → CType → ℕ → Bool
may_enter p t f = is_function_of t (base_at p.bases f) && is_named f p

-- how many of these bases, from number n on, such a call may enter
abbrev pub entered_from : Program → CType → ℕ → List Base → ℕ
entered_from p t n [] = 0
entered_from p t n (b ∷ more) = cond (is_function_of t (Some b) && is_named n p) 1 0 + entered_from p t (suc n) more

-- how many functions a call by a pointer to a function of this type may enter
abbrev pub callees : Program → CType → ℕ
callees p t = entered_from p t 0 p.bases

-- each function among these bases, from number n on, knows whether its name is used so
abbrev pub KnowFrom : Program → ℕ → List Base → Type 0
KnowFrom p n [] = Unit {0}
KnowFrom p n (b ∷ more) = (is_func b.sort ≡ true → b.named ≡ is_named n p) × KnowFrom p (suc n) more

abbrev pub KnowsNames : Program → Type 0
KnowsNames p = KnowFrom p 0 p.bases

-- ---- calls in a function's body

module _ (p : Program) (f : ℕ) where
  -- the lvalue that is called leads to the function
  abbrev pub Enters : Lvalue → Type 0
  Enters (Variable base) = base ≡ f
  Enters (Pointed e t volatile) = IsTrue (may_enter p t f)
  Enters place = ⊥

  abbrev mutual
    pub Calls : Expr → Type 0
    Calls (Number kind n) = ⊥
    Calls (Load type q) = CallsAt q
    Calls (Binary op kind a b) = Calls a ⊎ Calls b
    Calls (Assign type q e) = CallsAt q ⊎ Calls e
    Calls (LoadCells t q) = CallsAt q
    Calls (AssignCells t q e) = CallsAt q ⊎ Calls e
    Calls (Address t q) = CallsAt q
    Calls (Unary op kind e) = Calls e
    Calls (Convert t e) = Calls e
    Calls (OnPointers op s t a b) = Calls a ⊎ Calls b
    Calls (Logic is_and a b) = Calls a ⊎ Calls b
    Calls (Conditional t a b c) = Calls a ⊎ (Calls b ⊎ Calls c)
    Calls (Compound op t left right q e) = CallsAt q ⊎ Calls e
    Calls (Step up behind t q) = CallsAt q
    Calls (Comma a b) = Calls a ⊎ Calls b
    Calls (Call site t q arguments) = Enters q ⊎ (CallsAt q ⊎ CallsInSome arguments)

    pub CallsAt : Lvalue → Type 0
    CallsAt (Variable base) = ⊥
    CallsAt (Pointed e t volatile) = Calls e
    CallsAt (Temporary e t) = Calls e
    CallsAt (Member q c m) = CallsAt q
    CallsAt (Element q e t n end) = CallsAt q ⊎ Calls e
    CallsAt (ElementOf e q t n end) = Calls e ⊎ CallsAt q

    pub CallsInSome : Exprs → Type 0
    CallsInSome NoExpr = ⊥
    CallsInSome (NextExpr e more) = Calls e ⊎ CallsInSome more

  abbrev pub Where : {A : Type 0} → (A → Type 0) → Option A → Type 0
  Where P None = ⊥
  Where P (Some a) = P a

  abbrev pub CallsNumbered : Numbered → Type 0
  CallsNumbered n = Calls n.value

  abbrev pub CallsInHead : Head → Type 0
  CallsInHead h = Where CallsNumbered h.first ⊎ (Where Calls h.condition ⊎ Where CallsNumbered h.next)

  abbrev pub CallsInItems : List Item → Type 0
  CallsInItems [] = ⊥
  CallsInItems (Value t q e ∷ more) = CallsAt q ⊎ (Calls e ⊎ CallsInItems more)
  CallsInItems (Content image ∷ more) = CallsInItems more

  abbrev mutual
    pub CallsIn : Stmt → Type 0
    CallsIn (Expression id e) = Calls e
    CallsIn (Return id e) = Calls e
    CallsIn (If id e s t) = Calls e ⊎ (CallsIn s ⊎ CallsIn t)
    CallsIn (While id e s) = Calls e ⊎ CallsIn s
    CallsIn (Block bases stmts) = CallsInStmts stmts
    CallsIn Nothing = ⊥
    CallsIn (Empty id) = ⊥
    CallsIn (ReturnNothing id) = ⊥
    CallsIn (DoWhile h s) = CallsInHead h ⊎ CallsIn s
    CallsIn (For h s) = CallsInHead h ⊎ CallsIn s
    CallsIn (Switch id e s) = Calls e ⊎ CallsIn s
    CallsIn (Case value s) = CallsIn s
    CallsIn (Label name s) = CallsIn s
    CallsIn (Goto id name) = ⊥
    CallsIn (Break id) = ⊥
    CallsIn (Continue id) = ⊥
    CallsIn (Initialise id base cleared items) = CallsInItems items
    CallsIn (Assert id predicate) = ⊥

    pub CallsInStmts : Stmts → Type 0
    CallsInStmts Done = ⊥
    CallsInStmts (Next s more) = CallsIn s ⊎ CallsInStmts more

-- a call in the body of the first function may enter the second one
abbrev pub CanCall : Program → ℕ → ℕ → Type 0
CanCall p f g = by_function (function_at p.functions f)
  where
    by_function : Option Function → Type 0
    by_function None = ⊥
    by_function (Some function) = CallsInStmts p g function.body

-- functions that calls lead to from a function
pub data IsReachedFrom (p : Program) (f : ℕ) : ℕ → Type 0 where
  Itself : IsReachedFrom p f f
  Called : (g h : ℕ) → IsReachedFrom p f g → CanCall p g h → IsReachedFrom p f h

-- No function that the entry reaches calls itself, by whatever way: there is a rank that falls along each call.
pub record IsAcyclic (p : Program) : Type 0 where
  pub rank : ℕ → ℕ
  pub falls : (f g : ℕ) → IsReachedFrom p p.entry f → CanCall p f g → rank g < rank f
