-- Where a run is: which calls are in progress, and at which statement of the innermost function it stands.
use Rattle.std.specs.Prelude.{ℕ, ◌-◌, ◌<◌, ◌≡◌, ◌⊎◌, IsTrue, List, [], ◌∷◌, ◌++◌, Option, None, Some, is_some, slice_get}
use Rattle.std.specs.List.{Contains}
use Rattle.c_base.specs.declared.kind.Kind.{Kind}
use Rattle.c_memory.specs.Layouts.{Layout}
use Rattle.c_program.specs.Syntax.{Lvalue, Variable, base_at, Function, function_at, Program}
use Rattle.c_program.specs.StaticCalls.{is_function_of}
use Rattle.c_program.specs.Numbered.{numbers_of}
use Rattle.c_program.specs.Valid.{is_taken}
use Rattle.c_machine.specs.Work.{sites_of, statement_in, arrival, scopes_of}
use Rattle.c_machine.specs.Machine.{State, Stops, Step, called_type}
use Rattle.c_machine.specs.Laws.{IsReached, functions_in, NeverAgain}
use Rattle.machine_places.specs.Calls.{CallSite, all_calls}

-- ---- the calls in progress

-- A call with this site stands in the function's body, and the function g has the type that it calls (C11 6.5.2.2p9). A call by name enters
-- the function that it names.
pub record HasCall (p : Program) (f : Function) (site g : ℕ) : Type 0 where
  pub called : Lvalue
  pub stands : Contains (all_calls f.body) (record { site = site; called = called })
  pub fits : IsTrue (is_function_of (called_type p called) (base_at p.bases g))
  pub direct : (base : ℕ) → called ≡ Variable base → base ≡ g

abbrev pub Where : {A : Type 0} → (A → Type 0) → Option A → Type 0
Where P None = ⊥
Where P (Some a) = P a

-- the body of the function with number f has such a call
abbrev pub CallsAt : Program → ℕ → ℕ → ℕ → Type 0
CallsAt p f site g = Where (λ function. HasCall p function site g) (function_at p.functions f)

-- Call sites, the outermost first, and the functions in progress, the innermost first. The entry alone is in progress by no call; a call in the
-- body of the innermost function puts one more function in progress, and its site behind the others.
pub data IsCallString (p : Program) : List ℕ → List ℕ → Type 0 where
  Begun : IsCallString p [] (p.entry ∷ [])
  Entered : (sites outer : List ℕ) (f site g : ℕ) → IsCallString p sites (f ∷ outer) → CallsAt p f site g → IsCallString p (sites ++ site ∷ []) (g ∷ f ∷ outer)

-- ---- the statement

-- a statement in the body of the innermost of these functions, or its closing brace
abbrev pub IsOfInnermost : Program → List ℕ → ℕ → Type 0
IsOfInnermost p [] id = ⊥
IsOfInnermost p (f ∷ outer) id = Where (λ function. Contains (numbers_of function) id) (function_at p.functions f)

-- the program knows that the innermost of these functions, and no other, has the statement
abbrev pub IsOwnedByInnermost : Program → List ℕ → ℕ → Type 0
IsOwnedByInnermost p [] id = ⊥
IsOwnedByInnermost p (f ∷ outer) id = slice_get p.owners (id - 1) ≡ Some f

-- ---- the law

-- A stop at a statement of one function with the call string of another would name a place where the run never was; so would one whose string
-- leaves out a call in progress, or has one that returned.
pub record HasPlace (p : Program) (l : Layout) (s : State) : Type 0 where
  -- the call sites are those of the calls in progress, which lead from the entry to the innermost function
  pub calls : IsCallString p (sites_of s.control) (functions_in s.control)
  -- the run goes on in a statement of the innermost function
  pub statement : IsOfInnermost p (functions_in s.control) (statement_in s.control)
  -- so is a statement at which it has just arrived
  pub arrives : (id : ℕ) → arrival s.control ≡ Some id → IsOfInnermost p (functions_in s.control) id
  -- a stop names this statement and these call sites
  pub stops : (kind : Kind) (id : ℕ) (sites : List ℕ) → Step p l s (Stops kind id sites) → (id ≡ statement_in s.control) × (sites ≡ sites_of s.control)

-- each state that a run reaches has no work left, or has its place
abbrev pub HasPlaces : Program → Type 0
HasPlaces p = (l : Layout) (s : State) → IsReached p l s → (s.control ≡ []) ⊎ HasPlace p l s

-- a statement of the innermost function is one of no other
abbrev pub OwnsPlaces : Program → Type 0
OwnsPlaces p = (s : State) (id : ℕ) → IsOfInnermost p (functions_in s.control) id → IsOwnedByInnermost p (functions_in s.control) id

-- ---- programs whose calls lead back to no function in progress

-- There is a rank that falls along each call that a run may make: one in the body of the innermost of the functions in progress, to a
-- function that it names or, where it calls by a pointer, to any of the type.
pub record IsRanked (p : Program) : Type 0 where
  pub rank : ℕ → ℕ
  pub falls : (sites outer : List ℕ) (f site g : ℕ) → IsCallString p sites (f ∷ outer) → CallsAt p f site g → rank g < rank f

-- each call names what it calls
abbrev pub CallsByName : Program → Type 0
CallsByName p =
    (f : ℕ) (function : Function) → function_at p.functions f ≡ Some function → (c : CallSite) → Contains (all_calls function.body) c →
    (base : ℕ) × (c.called ≡ Variable base)

-- no two calls in a function's body have the same site
abbrev pub HasOwnSites : Program → Type 0
HasOwnSites p =
    (f : ℕ) (function : Function) → function_at p.functions f ≡ Some function → (c d : CallSite) → Contains (all_calls function.body) c →
    Contains (all_calls function.body) d → c.site ≡ d.site → c ≡ d

-- the call sites of a state with work left tell which functions are in progress, in all runs and layouts
abbrev pub SitesTellFunctions : Program → Type 0
SitesTellFunctions p =
    (l m : Layout) (s t : State) → IsReached p l s → IsReached p m t → sites_of s.control ≡ sites_of t.control →
    (s.control ≡ []) ⊎ ((t.control ≡ []) ⊎ (functions_in s.control ≡ functions_in t.control))

-- no run enters a function again while it is in progress
abbrev pub EntersOnce : Program → Type 0
EntersOnce p = (l : Layout) (s : State) (r : IsReached p l s) → NeverAgain r.run

-- the bases that live are the objects of the scopes in progress, and the static ones, in all states that a run reaches
abbrev pub AlwaysLivesInScopes : Program → Type 0
AlwaysLivesInScopes p = (l : Layout) (s : State) → IsReached p l s → (base : ℕ) → is_some (s.memory base) ≡ is_taken p (scopes_of s.control) base
