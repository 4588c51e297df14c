-- What holds of the meaning of every valid program.
use Rattle.std.specs.Prelude.{ℕ, ◌≡◌, ◌⊎◌, Bool, true, false, IsTrue, List, [], ◌∷◌, Option, None, Some, IsSome, is_some}
use Rattle.std.specs.List.{AllByRecursion}
use Rattle.c_memory.specs.Layouts.{Layout}
use Rattle.c_program.specs.Syntax.{Stmt, If, While, Block, DoWhile, For, Switch, Case, Label, Assert, Stmts, Done, Next, Base, base_at, Function, function_at, Program, IsLayout}
use Rattle.c_program.specs.StaticCalls.{is_func}
use Rattle.c_program.specs.Flow.{AreDifferent}
use Rattle.c_program.specs.Valid.{is_taken}
use Rattle.c_machine.specs.Machine.{Work, Sample, Frame, State, Outcome, Step, IsInitial, IsRun, last_of, scopes_of}

-- a state that some run of the program in the layout reaches
pub record IsReached (p : Program) (l : Layout) (s : State) : Type 0 where
  pub first : State
  pub run : List State
  pub layout : IsLayout p l
  pub begins : IsInitial p l first
  pub goes : IsRun p l first run
  pub ends : last_of first run ≡ s

-- a step goes on to a state, or stops
pub record HasStep (p : Program) (l : Layout) (s : State) : Type 0 where
  pub outcome : Outcome
  pub step : Step p l s outcome

-- no run gets stuck: a state that it reaches has no work left, or has a step
abbrev pub GoesOn : Program → Type 0
GoesOn p = (l : Layout) (s : State) → IsReached p l s → (s.control ≡ []) ⊎ HasStep p l s

-- a load of a volatile object is the one step that is a choice
abbrev pub is_choice : List Work → Bool
is_choice [] = false
is_choice (Sample type ∷ rest) = true
is_choice (work ∷ rest) = false

-- any other step is the only one of its state
abbrev pub IsDeterministic : Program → Layout → Type 0
IsDeterministic p l = (s : State) (a b : Outcome) → is_choice s.control ≡ false → Step p l s a → Step p l s b → a ≡ b

-- the program has an initial state in each layout
abbrev pub HasStart : Program → Type 0
HasStart p = (l : Layout) → IsLayout p l → (s : State) × IsInitial p l s

-- ---- which objects live

-- the functions in progress, the innermost first
abbrev pub functions_in : List Work → List ℕ
functions_in [] = []
functions_in (Frame function site ∷ rest) = function ∷ functions_in rest
functions_in (work ∷ rest) = functions_in rest

-- no function is entered again while it is in progress
abbrev pub NeverAgain : List State → Type 0
NeverAgain [] = Unit {0}
NeverAgain (s ∷ more) = AreDifferent (functions_in s.control) × NeverAgain more

-- the bases that live are the objects of the scopes in progress, and the static ones, where no function is entered again in the run
abbrev pub LivesInScopes : Program → Type 0
LivesInScopes p =
    (l : Layout) (s : State) (r : IsReached p l s) → NeverAgain r.run → (base : ℕ) → is_some (s.memory base) ≡ is_taken p (scopes_of s.control) base

-- ---- programs of functions with bodies, without annotations

abbrev mutual
  pub IsBare : Stmt → Type 0
  IsBare (If id e s t) = IsBare s × IsBare t
  IsBare (While id e s) = IsBare s
  IsBare (Block bases stmts) = AreBare stmts
  IsBare (DoWhile h s) = (h.invariants ≡ []) × IsBare s
  IsBare (For h s) = (h.invariants ≡ []) × IsBare s
  IsBare (Switch id e s) = IsBare s
  IsBare (Case value s) = IsBare s
  IsBare (Label name s) = IsBare s
  IsBare (Assert id predicate) = ⊥
  IsBare s = Unit {0}

  pub AreBare : Stmts → Type 0
  AreBare Done = Unit {0}
  AreBare (Next s more) = IsBare s × AreBare more

pub record IsBareFunction (f : Function) : Type 0 where
  pub body : AreBare f.body
  pub contract : f.contract ≡ None

abbrev pub is_function : Option Base → Bool
is_function None = false
is_function (Some b) = is_func b.sort

-- what a function without a body does, and what annotations ask for, is no matter here
pub record IsSelfContained (p : Program) : Type 0 where
  pub functions : AllByRecursion IsBareFunction p.functions
  pub bodies : (f : ℕ) → IsTrue (is_function (base_at p.bases f)) → IsSome (function_at p.functions f)
