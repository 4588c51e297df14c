-- No function is entered again while it is in progress, where each call names what it calls and calls form no cycle.
use Rattle.std.proofs.Common.{◌≡◌, ◌≢◌, ℕ, zero, suc, ◌<◌, ◌⊎◌, inl, inr, List, [], ◌∷◌, ◌++◌, Option, None, Some, refl, sym, ap, subst, arith}
use Rattle.std.specs.List.{Contains, AllByRecursion}
use Rattle.std.proofs.lemmas.List.Elements.{Contains-append_cases}
use Rattle.c_memory.specs.Layouts.{Layout}
use Rattle.c_program.specs.Syntax.{Lvalue, Variable, Pointed, Temporary, Member, Element, ElementOf, Expr, Number, Load, Binary, Assign, LoadCells, AssignCells, Address, Unary, Convert, OnPointers, Logic, Conditional, Compound, Step, Comma, Call, Exprs, NoExpr, NextExpr, Numbered, Item, Value, Content, Stmt, Expression, Return, If, While, Block, Nothing, Empty, ReturnNothing, DoWhile, For, Switch, Case, Label, Goto, Break, Continue, Initialise, Assert, Stmts, Done, Next, Function, function_at, Program}
use Rattle.c_program.specs.Flow.{AreDifferent}
use Rattle.c_program.specs.StaticCalls.{Enters, Calls, CallsAt as CallsAtPlace, CallsInSome, Where as WhereSome, CallsNumbered, CallsInItems, CallsIn, CallsInStmts, CanCall, IsReachedFrom, Itself, Called, IsAcyclic}
use Rattle.c_machine.specs.Machine.{State, Goes, IsRun, sites_of, statement_in}
use Rattle.c_machine.specs.Laws.{functions_in, NeverAgain}
use Rattle.machine_places.specs.Calls.{CallSite, calls_of, calls_at, calls_among, condition_calls, part_calls, item_calls, calls_in, all_calls}
use Rattle.machine_places.specs.Places.{HasCall, Where, CallsAt, IsCallString, Begun, Entered, IsRanked, CallsByName, EntersOnce}
use Rattle.machine_places.proofs.Segments.{Placed, placed, Whole}
use Rattle.machine_places.proofs.Staying.{stays, begins}

-- ---- a call that stands in a body, and calls by name, is one by which the function can call

cons_cases : {A : Type 0} → (x : A) (xs : List A) (y : A) → Contains (x ∷ xs) y → (x ≡ y) ⊎ Contains xs y
cons_cases x xs y (zero, lt, e) = inl e
cons_cases x xs y (suc k, lt, e) = inr (k, omega arith, e)

none_contained : {A : Type 0} → (y : A) → Contains [] y → ⊥
none_contained y (k, lt, e) = omega arith

module _ (p : Program) (g site : ℕ) where
  abbrev call : CallSite
  call = record { site = site; called = Variable g }

  -- of two lists one has the call
  either : {A B : Type 0} → (xs ys : List CallSite) → (Contains xs call → A) → (Contains ys call → B) → Contains (xs ++ ys) call → A ⊎ B
  either {A} {B} xs ys first second h = by_cases (Contains-append_cases xs ys call h)
    where
      by_cases : Contains xs call ⊎ Contains ys call → A ⊎ B
      by_cases (inl k) = inl (first k)
      by_cases (inr k) = inr (second k)

  mutual
    expr_calls : (e : Expr) → Contains (calls_of e) call → Calls p g e
    expr_calls (Number kind n) h = absurd (none_contained call h)
    expr_calls (Load type q) h = place_calls q h
    expr_calls (Binary op kind a b) h = either (calls_of a) (calls_of b) (expr_calls a) (expr_calls b) h
    expr_calls (Assign type q e) h = either (calls_at q) (calls_of e) (place_calls q) (expr_calls e) h
    expr_calls (LoadCells t q) h = place_calls q h
    expr_calls (AssignCells t q e) h = either (calls_at q) (calls_of e) (place_calls q) (expr_calls e) h
    expr_calls (Address t q) h = place_calls q h
    expr_calls (Unary op kind e) h = expr_calls e h
    expr_calls (Convert t e) h = expr_calls e h
    expr_calls (OnPointers op s t a b) h = either (calls_of a) (calls_of b) (expr_calls a) (expr_calls b) h
    expr_calls (Logic is_and a b) h = either (calls_of a) (calls_of b) (expr_calls a) (expr_calls b) h
    expr_calls (Conditional t a b c) h =
        either (calls_of a) (calls_of b ++ calls_of c) (expr_calls a) (λ k. either (calls_of b) (calls_of c) (expr_calls b) (expr_calls c) k) h
    expr_calls (Compound op t left right q e) h = either (calls_at q) (calls_of e) (place_calls q) (expr_calls e) h
    expr_calls (Step up behind t q) h = place_calls q h
    expr_calls (Comma a b) h = either (calls_of a) (calls_of b) (expr_calls a) (expr_calls b) h
    expr_calls (Call other t q arguments) h = by_cases
        (λ k. either (calls_at q) (calls_among arguments) (place_calls q) (among_calls arguments) k)
        (cons_cases (record { site = other; called = q }) (calls_at q ++ calls_among arguments) call h)
      where
        named : (x : Lvalue) → Variable g ≡ x → Enters p g x
        named x e = subst (Enters p g) e refl

        by_cases : (Contains (calls_at q ++ calls_among arguments) call → CallsAtPlace p g q ⊎ CallsInSome p g arguments) →
            (record { site = other; called = q } ≡ call) ⊎ Contains (calls_at q ++ calls_among arguments) call → Calls p g (Call other t q arguments)
        by_cases inside (inl e) = inl (named q (sym (ap (λ c. c.called) e)))
        by_cases inside (inr k) = inr (inside k)

    place_calls : (q : Lvalue) → Contains (calls_at q) call → CallsAtPlace p g q
    place_calls (Variable base) h = absurd (none_contained call h)
    place_calls (Pointed e t volatile) h = expr_calls e h
    place_calls (Temporary e t) h = expr_calls e h
    place_calls (Member q c m) h = place_calls q h
    place_calls (Element q e t n end) h = either (calls_at q) (calls_of e) (place_calls q) (expr_calls e) h
    place_calls (ElementOf e q t n end) h = either (calls_of e) (calls_at q) (expr_calls e) (place_calls q) h

    among_calls : (arguments : Exprs) → Contains (calls_among arguments) call → CallsInSome p g arguments
    among_calls NoExpr h = absurd (none_contained call h)
    among_calls (NextExpr e more) h = either (calls_of e) (calls_among more) (expr_calls e) (among_calls more) h

  in_condition : (e : Option Expr) → Contains (condition_calls e) call → WhereSome p g (Calls p g) e
  in_condition None h = absurd (none_contained call h)
  in_condition (Some e) h = expr_calls e h

  in_part : (n : Option Numbered) → Contains (part_calls n) call → WhereSome p g (CallsNumbered p g) n
  in_part None h = absurd (none_contained call h)
  in_part (Some n) h = expr_calls n.value h

  in_items : (items : List Item) → Contains (item_calls items) call → CallsInItems p g items
  in_items [] h = absurd (none_contained call h)
  in_items (Value t q e ∷ more) h =
      either (calls_at q) (calls_of e ++ item_calls more) (place_calls q) (λ k. either (calls_of e) (item_calls more) (expr_calls e) (in_items more) k) h
  in_items (Content image ∷ more) h = in_items more h

  mutual
    in_stmt : (s : Stmt) → Contains (calls_in s) call → CallsIn p g s
    in_stmt (Expression id e) h = expr_calls e h
    in_stmt (Return id e) h = expr_calls e h
    in_stmt (If id e s t) h = either (calls_of e) (calls_in s ++ calls_in t) (expr_calls e) (λ k. either (calls_in s) (calls_in t) (in_stmt s) (in_stmt t) k) h
    in_stmt (While id e s) h = either (calls_of e) (calls_in s) (expr_calls e) (in_stmt s) h
    in_stmt (Block bases stmts) h = in_stmts stmts h
    in_stmt Nothing h = absurd (none_contained call h)
    in_stmt (Empty id) h = absurd (none_contained call h)
    in_stmt (ReturnNothing id) h = absurd (none_contained call h)
    in_stmt (DoWhile w s) h = by_cases (in_stmt s) (Contains-append_cases (calls_in s) (condition_calls w.condition) call h)
      where
        by_cases : (Contains (calls_in s) call → CallsIn p g s) → Contains (calls_in s) call ⊎ Contains (condition_calls w.condition) call → CallsIn p g (DoWhile w s)
        by_cases inside (inl k) = inr (inside k)
        by_cases inside (inr k) = inl (inr (inl (in_condition w.condition k)))
    in_stmt (For w s) h =
        by_cases (in_stmt s) (Contains-append_cases (part_calls w.first) (condition_calls w.condition ++ (part_calls w.next ++ calls_in s)) call h)
      where
        by_next : (Contains (calls_in s) call → CallsIn p g s) → Contains (part_calls w.next) call ⊎ Contains (calls_in s) call → CallsIn p g (For w s)
        by_next inside (inl k) = inl (inr (inr (in_part w.next k)))
        by_next inside (inr k) = inr (inside k)

        by_condition : (Contains (calls_in s) call → CallsIn p g s) → Contains (condition_calls w.condition) call ⊎ Contains (part_calls w.next ++ calls_in s) call →
            CallsIn p g (For w s)
        by_condition inside (inl k) = inl (inr (inl (in_condition w.condition k)))
        by_condition inside (inr k) = by_next inside (Contains-append_cases (part_calls w.next) (calls_in s) call k)

        by_cases : (Contains (calls_in s) call → CallsIn p g s) →
            Contains (part_calls w.first) call ⊎ Contains (condition_calls w.condition ++ (part_calls w.next ++ calls_in s)) call → CallsIn p g (For w s)
        by_cases inside (inl k) = inl (inl (in_part w.first k))
        by_cases inside (inr k) = by_condition inside (Contains-append_cases (condition_calls w.condition) (part_calls w.next ++ calls_in s) call k)
    in_stmt (Switch id e s) h = either (calls_of e) (calls_in s) (expr_calls e) (in_stmt s) h
    in_stmt (Case value s) h = in_stmt s h
    in_stmt (Label name s) h = in_stmt s h
    in_stmt (Goto id name) h = absurd (none_contained call h)
    in_stmt (Break id) h = absurd (none_contained call h)
    in_stmt (Continue id) h = absurd (none_contained call h)
    in_stmt (Initialise id base cleared items) h = in_items items h
    in_stmt (Assert id predicate) h = absurd (none_contained call h)

    in_stmts : (stmts : Stmts) → Contains (all_calls stmts) call → CallsInStmts p g stmts
    in_stmts Done h = absurd (none_contained call h)
    in_stmts (Next s more) h = either (calls_in s) (all_calls more) (in_stmt s) (in_stmts more) h

module _ (p : Program) (acyclic : IsAcyclic p) (by_name : CallsByName p) where
  -- a call that has put a function in progress is one by which its caller can call it
  can_call : (f site g : ℕ) → CallsAt p f site g → CanCall p f g
  can_call f site g h = by_function (function_at p.functions f) refl h
    where
      by_function : (found : Option Function) → function_at p.functions f ≡ found → Where (λ function. HasCall p function site g) found → CanCall p f g
      by_function None e h = absurd h
      by_function (Some function) e h =
          let named : (base : ℕ) × (h.called ≡ Variable base) = by_name f function e (record { site = site; called = h.called }) h.stands in
          let same : named.0 ≡ g = h.direct named.0 named.1 in
          let callee : h.called ≡ Variable g = subst (λ base. h.called ≡ Variable base) same named.1 in
          let stands : Contains (all_calls function.body) (record { site = site; called = Variable g }) =
          subst (λ q. Contains (all_calls function.body) (record { site = site; called = q })) callee h.stands in
          rw e (in_stmts p g site function.body stands)

  abbrev Reached : List ℕ → Type 0
  Reached [] = ⊥
  Reached (f ∷ outer) = IsReachedFrom p p.entry f

  reached : (sites functions : List ℕ) → IsCallString p sites functions → Reached functions
  reached sites functions Begun = Itself
  reached sites functions (Entered before outer f site g calls call) = Called f g (reached before (f ∷ outer) calls) (can_call f site g call)

  pub is_ranked : IsRanked p
  is_ranked = record {
    rank = acyclic.rank;
    falls = λ sites outer f site g calls call. acyclic.falls f g (reached sites (f ∷ outer) calls) (can_call f site g call);
  }

module _ (p : Program) (ranked : IsRanked p) where
  -- ---- ranks fall along the functions in progress

  abbrev Falls : List ℕ → Type 0
  Falls [] = ⊥
  Falls (f ∷ outer) = AllByRecursion (λ g. ranked.rank f < ranked.rank g) outer × AreDifferent (f ∷ outer)

  all_above : (f g : ℕ) (outer : List ℕ) → ranked.rank g < ranked.rank f → AllByRecursion (λ h. ranked.rank f < ranked.rank h) outer →
      AllByRecursion (λ h. ranked.rank g < ranked.rank h) outer
  all_above f g [] less h = tt
  all_above f g (b ∷ outer) less h = (let k = h.0 in omega arith, all_above f g outer less h.1)

  all_others : (g : ℕ) (outer : List ℕ) → AllByRecursion (λ h. ranked.rank g < ranked.rank h) outer → AllByRecursion (λ h. g ≢ h) outer
  all_others g [] h = tt
  all_others g (b ∷ outer) h = (λ e. let less : ranked.rank g < ranked.rank g = subst (λ x. ranked.rank g < ranked.rank x) (sym e) h.0 in let no : ⊥ = omega arith in no, all_others g outer h.1)

  falls : (sites functions : List ℕ) → IsCallString p sites functions → Falls functions
  falls sites functions Begun = (tt, (tt, tt))
  falls sites functions (Entered before outer f site g calls call) =
      let outside = falls before (f ∷ outer) calls in
      let less : ranked.rank g < ranked.rank f = ranked.falls before outer f site g calls call in
      let above : AllByRecursion (λ h. ranked.rank g < ranked.rank h) (f ∷ outer) = (less, all_above f g outer less outside.0) in
      (above, (all_others g (f ∷ outer) above, outside.1))

  different : (l : Layout) (s : State) → Whole p l s.control s.held → AreDifferent (functions_in s.control)
  different l s (inl e) = rw e tt
  different l s (inr (f, known, h)) =
      let place : Placed p l f (sites_of s.control) (functions_in s.control) (statement_in s.control) = placed p l f s.control s.held h in
      let all : Falls (f.base ∷ place.innermost.0) = subst Falls place.innermost.1 (falls (sites_of s.control) (functions_in s.control) place.calls) in
      subst AreDifferent (sym place.innermost.1) all.1

  along : (l : Layout) (s : State) (ts : List State) → Whole p l s.control s.held → IsRun p l s ts → NeverAgain ts
  along l s [] h run = tt
  along l s (t ∷ ts) h run =
      let next : Whole p l t.control t.held = stays p l s (Goes t) h run.0 in
      (different l t next, along l t ts next run.1)

  pub enters_once : EntersOnce p
  enters_once l s r = along l r.first r.run (begins p l (function_at p.functions p.entry) r.first refl r.begins) r.goes
