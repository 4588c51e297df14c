-- Numbers and calls of statements and expressions have a property: part by part, and where all of a function's have it.
use Rattle.std.proofs.Common.{ℕ, zero, suc, List, [], ◌∷◌, ◌++◌, Option, None, Some, refl, arith}
use Rattle.std.specs.List.{Contains}
use Rattle.std.proofs.lemmas.List.Elements.{Contains-append_left, Contains-append_right}
use Rattle.c_program.specs.Numbered.{part_number, numbers_in, all_numbers}
use Rattle.c_program.specs.Syntax.{Lvalue, Variable, Pointed, Temporary, Member, Element, ElementOf, Expr, Number, Load, Binary, Assign, LoadCells, AssignCells, Address, Unary, Convert, OnPointers, Logic, Conditional, Compound, Step, Comma, Call, Exprs, NoExpr, NextExpr, Numbered, Head, Item, Value, Content, Stmt, Expression, Return, If, While, Block, Nothing, Empty, ReturnNothing, DoWhile, For, Switch, Case, Label, Goto, Break, Continue, Initialise, Assert, Stmts, Done, Next}
use Rattle.machine_places.specs.Calls.{CallSite, calls_of, calls_at, calls_among, condition_calls, part_calls, item_calls, calls_in, all_calls}

-- each element of a list has a property
abbrev pub Each : {A : Type 0} → (A → Type 0) → List A → Type 0
Each {A} P xs = (x : A) → Contains xs x → P x

first_of : {A : Type 0} → (P : A → Type 0) → (x : A) (xs : List A) → Each P (x ∷ xs) → P x
first_of P x xs h = h x (zero, omega arith, refl)

others_of : {A : Type 0} → (P : A → Type 0) → (x : A) (xs : List A) → Each P (x ∷ xs) → Each P xs
others_of P x xs h y (k, lt, e) = h y (suc k, omega arith, e)

left_of : {A : Type 0} → (P : A → Type 0) → (xs ys : List A) → Each P (xs ++ ys) → Each P xs
left_of P xs ys h y c = h y (Contains-append_left xs ys y c)

right_of : {A : Type 0} → (P : A → Type 0) → (xs ys : List A) → Each P (xs ++ ys) → Each P ys
right_of P xs ys h y c = h y (Contains-append_right xs ys y c)

module _ (N : ℕ → Type 0) (Q : CallSite → Type 0) where
  -- ---- expressions

  abbrev mutual
    pub Calls : Expr → Type 0
    Calls (Number kind n) = Unit {0}
    Calls (Load type q) = CallsAt q
    Calls (Binary op kind a b) = Calls a × Calls b
    Calls (Assign type q e) = CallsAt q × Calls e
    Calls (LoadCells t q) = CallsAt q
    Calls (AssignCells t q e) = CallsAt q × Calls e
    Calls (Address t q) = CallsAt q
    Calls (Unary op kind e) = Calls e
    Calls (Convert t e) = Calls e
    Calls (OnPointers op s t a b) = Calls a × Calls b
    Calls (Logic is_and a b) = Calls a × Calls b
    Calls (Conditional t a b c) = Calls a × Calls b × Calls c
    Calls (Compound op t left right q e) = CallsAt q × Calls e
    Calls (Step up behind t q) = CallsAt q
    Calls (Comma a b) = Calls a × Calls b
    Calls (Call site t q arguments) = Q (record { site = site; called = q }) × CallsAt q × CallsAmong arguments

    pub CallsAt : Lvalue → Type 0
    CallsAt (Variable base) = Unit {0}
    CallsAt (Pointed e t volatile) = Calls e
    CallsAt (Temporary e t) = Calls e
    CallsAt (Member q c m) = CallsAt q
    CallsAt (Element q e t n end) = CallsAt q × Calls e
    CallsAt (ElementOf e q t n end) = Calls e × CallsAt q

    pub CallsAmong : Exprs → Type 0
    CallsAmong NoExpr = Unit {0}
    CallsAmong (NextExpr e more) = Calls e × CallsAmong more

  -- ---- statements

  abbrev pub OfCondition : Option Expr → Type 0
  OfCondition None = Unit {0}
  OfCondition (Some e) = Calls e

  abbrev pub OfPart : Option Numbered → Type 0
  OfPart None = Unit {0}
  OfPart (Some n) = N n.id × Calls n.value

  -- a `do` has neither a first nor a third part
  abbrev pub OfTest : Head → Type 0
  OfTest h = N h.id × OfCondition h.condition

  abbrev pub OfHead : Head → Type 0
  OfHead h = N h.id × OfCondition h.condition × OfPart h.first × OfPart h.next

  abbrev pub OfItems : List Item → Type 0
  OfItems [] = Unit {0}
  OfItems (Value t q e ∷ more) = CallsAt q × Calls e × OfItems more
  OfItems (Content image ∷ more) = OfItems more

  abbrev mutual
    pub Of : Stmt → Type 0
    Of (Expression id e) = N id × Calls e
    Of (Return id e) = N id × Calls e
    Of (If id e s t) = N id × Calls e × Of s × Of t
    Of (While id e s) = N id × Calls e × Of s
    Of (Block bases stmts) = AllOf stmts
    Of Nothing = Unit {0}
    Of (Empty id) = N id
    Of (ReturnNothing id) = N id
    Of (DoWhile h s) = OfTest h × Of s
    Of (For h s) = OfHead h × Of s
    Of (Switch id e s) = N id × Calls e × Of s
    Of (Case value s) = Of s
    Of (Label name s) = Of s
    Of (Goto id name) = N id
    Of (Break id) = N id
    Of (Continue id) = N id
    Of (Initialise id base cleared items) = N id × OfItems items
    Of (Assert id predicate) = N id

    pub AllOf : Stmts → Type 0
    AllOf Done = Unit {0}
    AllOf (Next s more) = Of s × AllOf more

  -- ---- where all of a list have it

  left_calls : (xs ys : List CallSite) → Each Q (xs ++ ys) → Each Q xs
  left_calls xs ys h = left_of Q xs ys h

  right_calls : (xs ys : List CallSite) → Each Q (xs ++ ys) → Each Q ys
  right_calls xs ys h = right_of Q xs ys h

  mutual
    expr_calls : (e : Expr) → Each Q (calls_of e) → Calls e
    expr_calls (Number kind n) h = tt
    expr_calls (Load type q) h = place_calls q h
    expr_calls (Binary op kind a b) h = (expr_calls a (left_calls (calls_of a) (calls_of b) h), expr_calls b (right_calls (calls_of a) (calls_of b) h))
    expr_calls (Assign type q e) h = (place_calls q (left_calls (calls_at q) (calls_of e) h), expr_calls e (right_calls (calls_at q) (calls_of e) h))
    expr_calls (LoadCells t q) h = place_calls q h
    expr_calls (AssignCells t q e) h = (place_calls q (left_calls (calls_at q) (calls_of e) h), expr_calls e (right_calls (calls_at q) (calls_of e) h))
    expr_calls (Address t q) h = place_calls q h
    expr_calls (Unary op kind e) h = expr_calls e h
    expr_calls (Convert t e) h = expr_calls e h
    expr_calls (OnPointers op s t a b) h = (expr_calls a (left_calls (calls_of a) (calls_of b) h), expr_calls b (right_calls (calls_of a) (calls_of b) h))
    expr_calls (Logic is_and a b) h = (expr_calls a (left_calls (calls_of a) (calls_of b) h), expr_calls b (right_calls (calls_of a) (calls_of b) h))
    expr_calls (Conditional t a b c) h =
        let more = right_calls (calls_of a) (calls_of b ++ calls_of c) h in (
          expr_calls a (left_calls (calls_of a) (calls_of b ++ calls_of c) h),
          expr_calls b (left_calls (calls_of b) (calls_of c) more),
          expr_calls c (right_calls (calls_of b) (calls_of c) more),
        )
    expr_calls (Compound op t left right q e) h = (place_calls q (left_calls (calls_at q) (calls_of e) h), expr_calls e (right_calls (calls_at q) (calls_of e) h))
    expr_calls (Step up behind t q) h = place_calls q h
    expr_calls (Comma a b) h = (expr_calls a (left_calls (calls_of a) (calls_of b) h), expr_calls b (right_calls (calls_of a) (calls_of b) h))
    expr_calls (Call site t q arguments) h =
        let here : CallSite = record { site = site; called = q } in
        let more = others_of Q here (calls_at q ++ calls_among arguments) h in (
          first_of Q here (calls_at q ++ calls_among arguments) h,
          place_calls q (left_calls (calls_at q) (calls_among arguments) more),
          among_calls arguments (right_calls (calls_at q) (calls_among arguments) more),
        )

    place_calls : (q : Lvalue) → Each Q (calls_at q) → CallsAt q
    place_calls (Variable base) h = tt
    place_calls (Pointed e t volatile) h = expr_calls e h
    place_calls (Temporary e t) h = expr_calls e h
    place_calls (Member q c m) h = place_calls q h
    place_calls (Element q e t n end) h = (place_calls q (left_calls (calls_at q) (calls_of e) h), expr_calls e (right_calls (calls_at q) (calls_of e) h))
    place_calls (ElementOf e q t n end) h = (expr_calls e (left_calls (calls_of e) (calls_at q) h), place_calls q (right_calls (calls_of e) (calls_at q) h))

    among_calls : (arguments : Exprs) → Each Q (calls_among arguments) → CallsAmong arguments
    among_calls NoExpr h = tt
    among_calls (NextExpr e more) h = (expr_calls e (left_calls (calls_of e) (calls_among more) h), among_calls more (right_calls (calls_of e) (calls_among more) h))

  of_condition : (e : Option Expr) → Each Q (condition_calls e) → OfCondition e
  of_condition None h = tt
  of_condition (Some e) h = expr_calls e h

  of_part : (n : Option Numbered) → Each N (part_number n) → Each Q (part_calls n) → OfPart n
  of_part None h k = tt
  of_part (Some n) h k = (first_of N n.id [] h, expr_calls n.value k)

  of_items : (items : List Item) → Each Q (item_calls items) → OfItems items
  of_items [] h = tt
  of_items (Value t q e ∷ more) h =
      let others = right_calls (calls_at q) (calls_of e ++ item_calls more) h in (
        place_calls q (left_calls (calls_at q) (calls_of e ++ item_calls more) h),
        expr_calls e (left_calls (calls_of e) (item_calls more) others),
        of_items more (right_calls (calls_of e) (item_calls more) others),
      )
  of_items (Content image ∷ more) h = of_items more h

  mutual
    of_stmt : (s : Stmt) → Each N (numbers_in s) → Each Q (calls_in s) → Of s
    of_stmt (Expression id e) h k = (first_of N id [] h, expr_calls e k)
    of_stmt (Return id e) h k = (first_of N id [] h, expr_calls e k)
    of_stmt (If id e s t) h k =
        let numbers = others_of N id (numbers_in s ++ numbers_in t) h in
        let calls = right_calls (calls_of e) (calls_in s ++ calls_in t) k in (
          first_of N id (numbers_in s ++ numbers_in t) h,
          expr_calls e (left_calls (calls_of e) (calls_in s ++ calls_in t) k),
          of_stmt s (left_of N (numbers_in s) (numbers_in t) numbers) (left_calls (calls_in s) (calls_in t) calls),
          of_stmt t (right_of N (numbers_in s) (numbers_in t) numbers) (right_calls (calls_in s) (calls_in t) calls),
        )
    of_stmt (While id e s) h k = (
      first_of N id (numbers_in s) h,
      expr_calls e (left_calls (calls_of e) (calls_in s) k),
      of_stmt s (others_of N id (numbers_in s) h) (right_calls (calls_of e) (calls_in s) k),
    )
    of_stmt (Block bases stmts) h k = all_of stmts h k
    of_stmt Nothing h k = tt
    of_stmt (Empty id) h k = first_of N id [] h
    of_stmt (ReturnNothing id) h k = first_of N id [] h
    of_stmt (DoWhile w s) h k = (
      (first_of N w.id [] (right_of N (numbers_in s) (w.id ∷ []) h), of_condition w.condition (right_calls (calls_in s) (condition_calls w.condition) k)),
      of_stmt s (left_of N (numbers_in s) (w.id ∷ []) h) (left_calls (calls_in s) (condition_calls w.condition) k),
    )
    of_stmt (For w s) h k =
        let parts = others_of N w.id (part_number w.first ++ part_number w.next ++ numbers_in s) h in
        let heads = left_of N (part_number w.first ++ part_number w.next) (numbers_in s) parts in
        let conditions = right_calls (part_calls w.first) (condition_calls w.condition ++ (part_calls w.next ++ calls_in s)) k in
        let nexts = right_calls (condition_calls w.condition) (part_calls w.next ++ calls_in s) conditions in (
          (
            first_of N w.id (part_number w.first ++ part_number w.next ++ numbers_in s) h,
            of_condition w.condition (left_calls (condition_calls w.condition) (part_calls w.next ++ calls_in s) conditions),
            of_part w.first (left_of N (part_number w.first) (part_number w.next) heads)
                (left_calls (part_calls w.first) (condition_calls w.condition ++ (part_calls w.next ++ calls_in s)) k),
            of_part w.next (right_of N (part_number w.first) (part_number w.next) heads) (left_calls (part_calls w.next) (calls_in s) nexts),
          ),
          of_stmt s (right_of N (part_number w.first ++ part_number w.next) (numbers_in s) parts) (right_calls (part_calls w.next) (calls_in s) nexts),
        )
    of_stmt (Switch id e s) h k = (
      first_of N id (numbers_in s) h,
      expr_calls e (left_calls (calls_of e) (calls_in s) k),
      of_stmt s (others_of N id (numbers_in s) h) (right_calls (calls_of e) (calls_in s) k),
    )
    of_stmt (Case value s) h k = of_stmt s h k
    of_stmt (Label name s) h k = of_stmt s h k
    of_stmt (Goto id name) h k = first_of N id [] h
    of_stmt (Break id) h k = first_of N id [] h
    of_stmt (Continue id) h k = first_of N id [] h
    of_stmt (Initialise id base cleared items) h k = (first_of N id [] h, of_items items k)
    of_stmt (Assert id predicate) h k = first_of N id [] h

    pub all_of : (stmts : Stmts) → Each N (all_numbers stmts) → Each Q (all_calls stmts) → AllOf stmts
    all_of Done h k = tt
    all_of (Next s more) h k = (
      of_stmt s (left_of N (numbers_in s) (all_numbers more) h) (left_calls (calls_in s) (all_calls more) k),
      all_of more (right_of N (numbers_in s) (all_numbers more) h) (right_calls (calls_in s) (all_calls more) k),
    )
