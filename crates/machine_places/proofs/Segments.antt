-- Work is cut by frames into segments, each of one function: what it names stands in that function's body, and what is held is what it uses.
use Rattle.std.proofs.Common.{◌≡◌, ℕ, suc, List, [], ◌∷◌, ◌++◌, Option, None, Some, ◌⊎◌, inl, inr, refl, sym, subst}
use Rattle.std.specs.List.{Contains}
use Rattle.c_memory.specs.Layouts.{Layout}
use Rattle.c_memory.specs.Memories.{address_of}
use Rattle.c_types.specs.Types.{CType}
use Rattle.c_program.specs.Syntax.{Lvalue, Variable, Pointed, Temporary, Member, Element, ElementOf, Expr, Head, Stmt, Expression, Return, If, While, Block, Nothing, Empty, ReturnNothing, DoWhile, For, Switch, Case, Label, Goto, Break, Continue, Initialise, Assert, Stmts, Done, Next, Function, function_at, Program}
use Rattle.c_program.specs.Numbered.{numbers_of}
use Rattle.c_machine.specs.Machine.{Held, Usable, Absent, Work, Do, Evaluate, Locate, Fetch, Store, Apply, Discard, Choose, Loop, Turn, Deliver, Body, Brace, Close, Frame, Use, AsPlace, Reach, Index, IndexedBy, Sample, FetchCells, StoreCells, CopyCells, ApplyOne, Change, ApplyPointers, Decide, Settle, Pick, Again, Tuck, Increase, Drop, Enter, Put, Paste, Finish, ForHead, ForNext, ForTurn, DoTest, DoTurn, Select, Switched, queued, sites_of, statement_in, number_of, arrival, Exit, exit_of, called_type}
use Rattle.c_machine.specs.Parts.{split_held}
use Rattle.c_machine.specs.Laws.{functions_in}
use Rattle.machine_places.specs.Calls.{CallSite, all_calls}
use Rattle.machine_places.specs.Places.{HasCall, Where, IsCallString, Begun, Entered}
use Rattle.machine_places.proofs.Belonging.{Calls as CallsOf, CallsAt as CallsOfPlace, Of as OfAny, AllOf as AllOfAny, OfTest as OfAnyTest, OfHead as OfAnyHead}

-- numbers and calls of a function
abbrev pub IsNumber : Function → ℕ → Type 0
IsNumber f id = Contains (numbers_of f) id

abbrev pub IsCall : Function → CallSite → Type 0
IsCall f c = Contains (all_calls f.body) c

abbrev pub OfExpr : Function → Expr → Type 0
OfExpr f e = CallsOf (IsNumber f) (IsCall f) e

abbrev pub OfPlace : Function → Lvalue → Type 0
OfPlace f q = CallsOfPlace (IsNumber f) (IsCall f) q

abbrev pub Of : Function → Stmt → Type 0
Of f s = OfAny (IsNumber f) (IsCall f) s

abbrev pub AllOf : Function → Stmts → Type 0
AllOf f stmts = AllOfAny (IsNumber f) (IsCall f) stmts

abbrev pub OfTest : Function → Head → Type 0
OfTest f h = OfAnyTest (IsNumber f) (IsCall f) h

abbrev pub OfHead : Function → Head → Type 0
OfHead f h = OfAnyHead (IsNumber f) (IsCall f) h

-- what is held without the value held last
abbrev pub Popped : List Held → (List Held → Type 0) → Type 0
Popped [] P = ⊥
Popped (h ∷ held) P = P held

abbrev pub Twice : List Held → (List Held → Type 0) → Type 0
Twice held P = Popped held (λ below. Popped below P)

-- what a call finds: the function's address and the arguments, and what is held below
abbrev pub Called : Option (List Held × List Held) → (Held → List Held → Type 0) → Type 0
Called None P = ⊥
Called (Some ([], below)) P = ⊥
Called (Some (h ∷ arguments, below)) P = P h below

pub popped : (held : List Held) (P : List Held → Type 0) → Popped held P → (below : List Held) × P below
popped [] P h = absurd h
popped (x ∷ held) P h = (held, h)

twice : (held : List Held) (P : List Held → Type 0) → Twice held P → (below : List Held) × P below
twice [] P h = absurd h
twice (x ∷ held) P h = popped held P h

called : (o : Option (List Held × List Held)) (P : Held → List Held → Type 0) → Called o P → (h : Held) × (below : List Held) × P h below
called None P h = absurd h
called (Some ([], below)) P h = absurd h
called (Some (x ∷ arguments, below)) P h = (x, below, h)

module _ (p : Program) (l : Layout) where
  -- a variable is found at its base's address
  abbrev pub IsFound : Lvalue → Held → Type 0
  IsFound (Variable base) h = h ≡ Usable (address_of l base)
  IsFound q h = Unit {0}

  some_found : (q : Lvalue) → (h : Held) × IsFound q h
  some_found (Variable base) = (Usable (address_of l base), refl)
  some_found (Pointed e t volatile) = (Absent, tt)
  some_found (Temporary e t) = (Absent, tt)
  some_found (Member q c m) = (Absent, tt)
  some_found (Element q e t n end) = (Absent, tt)
  some_found (ElementOf e q t n end) = (Absent, tt)

  -- a call of the function, whose type is that of what it calls, and what it calls was found
  pub record IsEntering (f : Function) (site : ℕ) (t : CType) (callee : Held) : Type 0 where
    pub place : Lvalue
    pub stands : IsCall f (record { site = site; called = place })
    pub typed : t ≡ called_type p place
    pub found : IsFound place callee

  abbrev pub Known : Function → Type 0
  Known f = function_at p.functions f.base ≡ Some f

  abbrev mutual
    -- work of the function f, with what is held for it, down to its frame, and the work of the functions that called it
    pub In : Function → List Work → List Held → Type 0
    In f [] held = ⊥
    In f (Frame g site ∷ rest) held = ⊥
    In f (Evaluate e ∷ rest) held = OfExpr f e × ((v : Held) → In f rest (v ∷ held))
    In f (Locate q ∷ rest) held = OfPlace f q × ((v : Held) → IsFound q v → In f rest (v ∷ held))
    In f (Decide is_and e ∷ rest) held = OfExpr f e × Popped held (λ below. (v : Held) → In f rest (v ∷ below))
    In f (Pick b c ∷ rest) held = (OfExpr f b × OfExpr f c) × Popped held (λ below. (v : Held) → In f rest (v ∷ below))
    In f (Store type ∷ rest) held = Twice held (λ below. (v : Held) → In f rest (v ∷ below))
    In f (Apply op kind ∷ rest) held = Twice held (λ below. (v : Held) → In f rest (v ∷ below))
    In f (Index t k end ∷ rest) held = Twice held (λ below. (v : Held) → In f rest (v ∷ below))
    In f (IndexedBy t k end ∷ rest) held = Twice held (λ below. (v : Held) → In f rest (v ∷ below))
    In f (StoreCells named t ∷ rest) held = Twice held (λ below. (v : Held) → In f rest (v ∷ below))
    In f (CopyCells named t ∷ rest) held = Twice held (λ below. (v : Held) → In f rest (v ∷ below))
    In f (ApplyPointers op left right ∷ rest) held = Twice held (λ below. (v : Held) → In f rest (v ∷ below))
    In f (Put type ∷ rest) held = Twice held (λ below. (v : Held) → In f rest (v ∷ below))
    In f (Again ∷ rest) held = Popped held (λ below. (v w : Held) → In f rest (v ∷ w ∷ below))
    In f (Tuck ∷ rest) held = Twice held (λ below. (u v w : Held) → In f rest (u ∷ v ∷ w ∷ below))
    In f (Drop ∷ rest) held = Popped held (λ below. In f rest below)
    In f (Enter site t k ∷ rest) held = Called (split_held (suc k) [] held) (λ callee below. IsEntering f site t callee × ((v : Held) → In f rest (v ∷ below)))
    In f (Paste base image ∷ rest) held = In f rest held
    In f (Discard id ∷ rest) held = IsNumber f id × Popped held (λ below. At f rest below)
    In f (Choose id s t ∷ rest) held = (IsNumber f id × Of f s × Of f t) × Popped held (λ below. At f rest below)
    In f (Turn id e s ∷ rest) held = (IsNumber f id × OfExpr f e × Of f s) × Popped held (λ below. At f rest below)
    In f (Deliver id ∷ rest) held = IsNumber f id × Popped held (λ below. At f rest below)
    In f (Finish id ∷ rest) held = IsNumber f id × At f rest held
    In f (ForTurn w s ∷ rest) held = (OfHead f w × Of f s) × Popped held (λ below. At f rest below)
    In f (DoTurn w s ∷ rest) held = (OfTest f w × Of f s) × Popped held (λ below. At f rest below)
    In f (Select id s ∷ rest) held = (IsNumber f id × Of f s) × Popped held (λ below. At f rest below)
    In f (Do s ∷ rest) held = Of f s × At f rest held
    In f (Loop id e s ∷ rest) held = (IsNumber f id × OfExpr f e × Of f s) × At f rest held
    In f (Body stmts ∷ rest) held = AllOf f stmts × At f rest held
    In f (Close bases stmts ∷ rest) held = AllOf f stmts × At f rest held
    In f (ForHead w s ∷ rest) held = (OfHead f w × Of f s) × At f rest held
    In f (ForNext w s ∷ rest) held = (OfHead f w × Of f s) × At f rest held
    In f (DoTest w s ∷ rest) held = (OfTest f w × Of f s) × At f rest held
    In f (Switched ∷ rest) held = At f rest held
    In f (Brace id result ∷ rest) held = IsNumber f id × Behind f rest held
    In f (work ∷ rest) held = Popped held (λ below. (v : Held) → In f rest (v ∷ below))

    -- where a statement begins or ends: marks and statements alone stand down to the frame
    pub At : Function → List Work → List Held → Type 0
    At f [] held = ⊥
    At f (Do s ∷ rest) held = Of f s × At f rest held
    At f (Loop id e s ∷ rest) held = (IsNumber f id × OfExpr f e × Of f s) × At f rest held
    At f (Body stmts ∷ rest) held = AllOf f stmts × At f rest held
    At f (Close bases stmts ∷ rest) held = AllOf f stmts × At f rest held
    At f (ForHead w s ∷ rest) held = (OfHead f w × Of f s) × At f rest held
    At f (ForNext w s ∷ rest) held = (OfHead f w × Of f s) × At f rest held
    At f (DoTest w s ∷ rest) held = (OfTest f w × Of f s) × At f rest held
    At f (Switched ∷ rest) held = At f rest held
    At f (Brace id result ∷ rest) held = IsNumber f id × Behind f rest held
    At f (work ∷ rest) held = ⊥

    -- the closing brace stands just before the function's objects and its frame
    pub Behind : Function → List Work → List Held → Type 0
    Behind f [] held = ⊥
    Behind f (Close bases stmts ∷ rest) held = (stmts ≡ Done) × Framed f rest held
    Behind f (work ∷ rest) held = ⊥

    pub Framed : Function → List Work → List Held → Type 0
    Framed f [] held = ⊥
    Framed f (Frame g None ∷ rest) held = (g ≡ f.base) × (f.base ≡ p.entry) × (rest ≡ [])
    Framed f (Frame g (Some site) ∷ rest) held = (g ≡ f.base) × ((h : Function) × Known h × HasCall p h site f.base × ((v : Held) → In h rest (v ∷ held)))
    Framed f (work ∷ rest) held = ⊥

  pub at_in : (f : Function) (control : List Work) (held : List Held) → At f control held → In f control held
  at_in f [] held h = absurd h
  at_in f (Frame g site ∷ rest) held h = absurd h
  at_in f (Do s ∷ rest) held h = h
  at_in f (Loop id e s ∷ rest) held h = h
  at_in f (Body stmts ∷ rest) held h = h
  at_in f (Close bases stmts ∷ rest) held h = h
  at_in f (ForHead w s ∷ rest) held h = h
  at_in f (ForNext w s ∷ rest) held h = h
  at_in f (DoTest w s ∷ rest) held h = h
  at_in f (Switched ∷ rest) held h = h
  at_in f (Brace id result ∷ rest) held h = h
  at_in f (Fetch type ∷ rest) held h = absurd h
  at_in f (Use ∷ rest) held h = absurd h
  at_in f (AsPlace ∷ rest) held h = absurd h
  at_in f (Reach c m ∷ rest) held h = absurd h
  at_in f (Sample type ∷ rest) held h = absurd h
  at_in f (FetchCells t ∷ rest) held h = absurd h
  at_in f (ApplyOne op kind ∷ rest) held h = absurd h
  at_in f (Change t ∷ rest) held h = absurd h
  at_in f (Settle ∷ rest) held h = absurd h
  at_in f (Increase up t ∷ rest) held h = absurd h
  at_in f (Store type ∷ rest) held h = absurd h
  at_in f (Apply op kind ∷ rest) held h = absurd h
  at_in f (Index t k end ∷ rest) held h = absurd h
  at_in f (IndexedBy t k end ∷ rest) held h = absurd h
  at_in f (StoreCells named t ∷ rest) held h = absurd h
  at_in f (CopyCells named t ∷ rest) held h = absurd h
  at_in f (ApplyPointers op left right ∷ rest) held h = absurd h
  at_in f (Put type ∷ rest) held h = absurd h
  at_in f (Evaluate e ∷ rest) held h = absurd h
  at_in f (Locate q ∷ rest) held h = absurd h
  at_in f (Again ∷ rest) held h = absurd h
  at_in f (Tuck ∷ rest) held h = absurd h
  at_in f (Drop ∷ rest) held h = absurd h
  at_in f (Paste base image ∷ rest) held h = absurd h
  at_in f (Decide is_and e ∷ rest) held h = absurd h
  at_in f (Pick b c ∷ rest) held h = absurd h
  at_in f (Enter site t k ∷ rest) held h = absurd h
  at_in f (Discard id ∷ rest) held h = absurd h
  at_in f (Choose id s t ∷ rest) held h = absurd h
  at_in f (Turn id e s ∷ rest) held h = absurd h
  at_in f (Deliver id ∷ rest) held h = absurd h
  at_in f (Finish id ∷ rest) held h = absurd h
  at_in f (ForTurn w s ∷ rest) held h = absurd h
  at_in f (DoTurn w s ∷ rest) held h = absurd h
  at_in f (Select id s ∷ rest) held h = absurd h

  -- ---- what a state's work tells of its place

  -- the calls in progress lead to the function f, which has the statement
  pub record Placed (f : Function) (sites functions : List ℕ) (statement : ℕ) : Type 0 where
    pub calls : IsCallString p sites functions
    pub innermost : (outer : List ℕ) × (functions ≡ f.base ∷ outer)
    pub has : IsNumber f statement

  numbered : (f : Function) (rest : List Work) (id : ℕ) → Placed f (sites_of rest) (functions_in rest) (statement_in rest) → IsNumber f id → Placed f (sites_of rest) (functions_in rest) id
  numbered f rest id h k = record { calls = h.calls; innermost = h.innermost; has = k }

  -- a call of the function h has entered the function f
  one_more : (f h : Function) (site : ℕ) (rest : List Work) (id : ℕ) → Known h → HasCall p h site f.base → IsNumber f id →
      Placed h (sites_of rest) (functions_in rest) (statement_in rest) → Placed f (sites_of rest ++ site ∷ []) (f.base ∷ functions_in rest) id
  one_more f h site rest id known call number outer = record {
    calls =
        let inner : IsCallString p (sites_of rest) (h.base ∷ outer.innermost.0) = subst (IsCallString p (sites_of rest)) outer.innermost.1 outer.calls in
        let here : Where (λ function. HasCall p function site f.base) (function_at p.functions h.base) = subst (λ found. Where (λ function. HasCall p function site f.base) found) (sym known) call in
        subst (λ functions. IsCallString p (sites_of rest ++ site ∷ []) (f.base ∷ functions)) (sym outer.innermost.1)
        (Entered (sites_of rest) outer.innermost.0 h.base site f.base inner here);
    innermost = (functions_in rest, refl);
    has = number;
  }

  mutual
    pub placed : (f : Function) (control : List Work) (held : List Held) → In f control held → Placed f (sites_of control) (functions_in control) (statement_in control)
    placed f [] held h = absurd h
    placed f (Frame g site ∷ rest) held h = absurd h
    placed f (Do s ∷ rest) held h = placed f rest held (at_in f rest held h.1)
    placed f (Loop id e s ∷ rest) held h = numbered f rest id (placed f rest held (at_in f rest held h.1)) h.0.0
    placed f (Body stmts ∷ rest) held h = placed f rest held (at_in f rest held h.1)
    placed f (Close bases stmts ∷ rest) held h = placed f rest held (at_in f rest held h.1)
    placed f (ForHead w s ∷ rest) held h = numbered f rest w.id (placed f rest held (at_in f rest held h.1)) h.0.0.0
    placed f (ForNext w s ∷ rest) held h = numbered f rest w.id (placed f rest held (at_in f rest held h.1)) h.0.0.0
    placed f (DoTest w s ∷ rest) held h = numbered f rest w.id (placed f rest held (at_in f rest held h.1)) h.0.0.0
    placed f (Switched ∷ rest) held h = placed f rest held (at_in f rest held h)
    placed f (Brace id result ∷ rest) held h = placed_behind f id rest held h.0 h.1
    placed f (Fetch type ∷ rest) held h = let b = popped held (λ below. (v : Held) → In f rest (v ∷ below)) h in placed f rest (Absent ∷ b.0) (b.1 Absent)
    placed f (Use ∷ rest) held h = let b = popped held (λ below. (v : Held) → In f rest (v ∷ below)) h in placed f rest (Absent ∷ b.0) (b.1 Absent)
    placed f (AsPlace ∷ rest) held h = let b = popped held (λ below. (v : Held) → In f rest (v ∷ below)) h in placed f rest (Absent ∷ b.0) (b.1 Absent)
    placed f (Reach c m ∷ rest) held h = let b = popped held (λ below. (v : Held) → In f rest (v ∷ below)) h in placed f rest (Absent ∷ b.0) (b.1 Absent)
    placed f (Sample type ∷ rest) held h = let b = popped held (λ below. (v : Held) → In f rest (v ∷ below)) h in placed f rest (Absent ∷ b.0) (b.1 Absent)
    placed f (FetchCells t ∷ rest) held h = let b = popped held (λ below. (v : Held) → In f rest (v ∷ below)) h in placed f rest (Absent ∷ b.0) (b.1 Absent)
    placed f (ApplyOne op kind ∷ rest) held h = let b = popped held (λ below. (v : Held) → In f rest (v ∷ below)) h in placed f rest (Absent ∷ b.0) (b.1 Absent)
    placed f (Change t ∷ rest) held h = let b = popped held (λ below. (v : Held) → In f rest (v ∷ below)) h in placed f rest (Absent ∷ b.0) (b.1 Absent)
    placed f (Settle ∷ rest) held h = let b = popped held (λ below. (v : Held) → In f rest (v ∷ below)) h in placed f rest (Absent ∷ b.0) (b.1 Absent)
    placed f (Increase up t ∷ rest) held h = let b = popped held (λ below. (v : Held) → In f rest (v ∷ below)) h in placed f rest (Absent ∷ b.0) (b.1 Absent)
    placed f (Store type ∷ rest) held h = let b = twice held (λ below. (v : Held) → In f rest (v ∷ below)) h in placed f rest (Absent ∷ b.0) (b.1 Absent)
    placed f (Apply op kind ∷ rest) held h = let b = twice held (λ below. (v : Held) → In f rest (v ∷ below)) h in placed f rest (Absent ∷ b.0) (b.1 Absent)
    placed f (Index t k end ∷ rest) held h = let b = twice held (λ below. (v : Held) → In f rest (v ∷ below)) h in placed f rest (Absent ∷ b.0) (b.1 Absent)
    placed f (IndexedBy t k end ∷ rest) held h = let b = twice held (λ below. (v : Held) → In f rest (v ∷ below)) h in placed f rest (Absent ∷ b.0) (b.1 Absent)
    placed f (StoreCells named t ∷ rest) held h = let b = twice held (λ below. (v : Held) → In f rest (v ∷ below)) h in placed f rest (Absent ∷ b.0) (b.1 Absent)
    placed f (CopyCells named t ∷ rest) held h = let b = twice held (λ below. (v : Held) → In f rest (v ∷ below)) h in placed f rest (Absent ∷ b.0) (b.1 Absent)
    placed f (ApplyPointers op left right ∷ rest) held h = let b = twice held (λ below. (v : Held) → In f rest (v ∷ below)) h in placed f rest (Absent ∷ b.0) (b.1 Absent)
    placed f (Put type ∷ rest) held h = let b = twice held (λ below. (v : Held) → In f rest (v ∷ below)) h in placed f rest (Absent ∷ b.0) (b.1 Absent)
    placed f (Evaluate e ∷ rest) held h = placed f rest (Absent ∷ held) (h.1 Absent)
    placed f (Locate q ∷ rest) held h = let found = some_found q in placed f rest (found.0 ∷ held) (h.1 found.0 found.1)
    placed f (Again ∷ rest) held h = let b = popped held (λ below. (v w : Held) → In f rest (v ∷ w ∷ below)) h in placed f rest (Absent ∷ Absent ∷ b.0) (b.1 Absent Absent)
    placed f (Tuck ∷ rest) held h = let b = twice held (λ below. (u v w : Held) → In f rest (u ∷ v ∷ w ∷ below)) h in placed f rest (Absent ∷ Absent ∷ Absent ∷ b.0) (b.1 Absent Absent Absent)
    placed f (Drop ∷ rest) held h = let b = popped held (λ below. In f rest below) h in placed f rest b.0 b.1
    placed f (Paste base image ∷ rest) held h = placed f rest held h
    placed f (Decide is_and e ∷ rest) held h = let b = popped held (λ below. (v : Held) → In f rest (v ∷ below)) h.1 in placed f rest (Absent ∷ b.0) (b.1 Absent)
    placed f (Pick b c ∷ rest) held h = let below = popped held (λ below. (v : Held) → In f rest (v ∷ below)) h.1 in placed f rest (Absent ∷ below.0) (below.1 Absent)
    placed f (Enter site t k ∷ rest) held h = let c = called (split_held (suc k) [] held) (λ callee below. IsEntering f site t callee × ((v : Held) → In f rest (v ∷ below))) h in placed f rest (Absent ∷ c.1) (c.2.1 Absent)
    placed f (Discard id ∷ rest) held h = let b = popped held (λ below. At f rest below) h.1 in numbered f rest id (placed f rest b.0 (at_in f rest b.0 b.1)) h.0
    placed f (Choose id s t ∷ rest) held h = let b = popped held (λ below. At f rest below) h.1 in numbered f rest id (placed f rest b.0 (at_in f rest b.0 b.1)) h.0.0
    placed f (Turn id e s ∷ rest) held h = let b = popped held (λ below. At f rest below) h.1 in numbered f rest id (placed f rest b.0 (at_in f rest b.0 b.1)) h.0.0
    placed f (Deliver id ∷ rest) held h = let b = popped held (λ below. At f rest below) h.1 in numbered f rest id (placed f rest b.0 (at_in f rest b.0 b.1)) h.0
    placed f (Finish id ∷ rest) held h = numbered f rest id (placed f rest held (at_in f rest held h.1)) h.0
    placed f (ForTurn w s ∷ rest) held h = let b = popped held (λ below. At f rest below) h.1 in numbered f rest w.id (placed f rest b.0 (at_in f rest b.0 b.1)) h.0.0.0
    placed f (DoTurn w s ∷ rest) held h = let b = popped held (λ below. At f rest below) h.1 in numbered f rest w.id (placed f rest b.0 (at_in f rest b.0 b.1)) h.0.0.0
    placed f (Select id s ∷ rest) held h = let b = popped held (λ below. At f rest below) h.1 in numbered f rest id (placed f rest b.0 (at_in f rest b.0 b.1)) h.0.0

    placed_behind : (f : Function) (id : ℕ) (control : List Work) (held : List Held) → IsNumber f id → Behind f control held → Placed f (sites_of control) (functions_in control) id
    placed_behind f id [] held number h = absurd h
    placed_behind f id (Frame g site ∷ rest) held number h = absurd h
    placed_behind f id (Do s ∷ rest) held number h = absurd h
    placed_behind f id (Loop n e s ∷ rest) held number h = absurd h
    placed_behind f id (Body stmts ∷ rest) held number h = absurd h
    placed_behind f id (Close bases stmts ∷ rest) held number h = placed_framed f id rest held number h.1
    placed_behind f id (ForHead w s ∷ rest) held number h = absurd h
    placed_behind f id (ForNext w s ∷ rest) held number h = absurd h
    placed_behind f id (DoTest w s ∷ rest) held number h = absurd h
    placed_behind f id (Switched ∷ rest) held number h = absurd h
    placed_behind f id (Brace n result ∷ rest) held number h = absurd h
    placed_behind f id (Fetch type ∷ rest) held number h = absurd h
    placed_behind f id (Use ∷ rest) held number h = absurd h
    placed_behind f id (AsPlace ∷ rest) held number h = absurd h
    placed_behind f id (Reach c m ∷ rest) held number h = absurd h
    placed_behind f id (Sample type ∷ rest) held number h = absurd h
    placed_behind f id (FetchCells t ∷ rest) held number h = absurd h
    placed_behind f id (ApplyOne op kind ∷ rest) held number h = absurd h
    placed_behind f id (Change t ∷ rest) held number h = absurd h
    placed_behind f id (Settle ∷ rest) held number h = absurd h
    placed_behind f id (Increase up t ∷ rest) held number h = absurd h
    placed_behind f id (Store type ∷ rest) held number h = absurd h
    placed_behind f id (Apply op kind ∷ rest) held number h = absurd h
    placed_behind f id (Index t k end ∷ rest) held number h = absurd h
    placed_behind f id (IndexedBy t k end ∷ rest) held number h = absurd h
    placed_behind f id (StoreCells named t ∷ rest) held number h = absurd h
    placed_behind f id (CopyCells named t ∷ rest) held number h = absurd h
    placed_behind f id (ApplyPointers op left right ∷ rest) held number h = absurd h
    placed_behind f id (Put type ∷ rest) held number h = absurd h
    placed_behind f id (Evaluate e ∷ rest) held number h = absurd h
    placed_behind f id (Locate q ∷ rest) held number h = absurd h
    placed_behind f id (Again ∷ rest) held number h = absurd h
    placed_behind f id (Tuck ∷ rest) held number h = absurd h
    placed_behind f id (Drop ∷ rest) held number h = absurd h
    placed_behind f id (Paste base image ∷ rest) held number h = absurd h
    placed_behind f id (Decide is_and e ∷ rest) held number h = absurd h
    placed_behind f id (Pick b c ∷ rest) held number h = absurd h
    placed_behind f id (Enter site t k ∷ rest) held number h = absurd h
    placed_behind f id (Discard n ∷ rest) held number h = absurd h
    placed_behind f id (Choose n s t ∷ rest) held number h = absurd h
    placed_behind f id (Turn n e s ∷ rest) held number h = absurd h
    placed_behind f id (Deliver n ∷ rest) held number h = absurd h
    placed_behind f id (Finish n ∷ rest) held number h = absurd h
    placed_behind f id (ForTurn w s ∷ rest) held number h = absurd h
    placed_behind f id (DoTurn w s ∷ rest) held number h = absurd h
    placed_behind f id (Select n s ∷ rest) held number h = absurd h

    placed_framed : (f : Function) (id : ℕ) (control : List Work) (held : List Held) → IsNumber f id → Framed f control held → Placed f (sites_of control) (functions_in control) id
    placed_framed f id [] held number h = absurd h
    placed_framed f id (Frame g None ∷ rest) held number h = rw (h.0, h.1, h.2) (record { calls = Begun; innermost = ([], refl); has = number })
    placed_framed f id (Frame g (Some site) ∷ rest) held number h =
        let caller : Function = h.1.0 in
        rw h.0 (one_more f caller site rest id h.1.1 h.1.2 number (placed caller rest (Absent ∷ held) (h.1.3 Absent)))
    placed_framed f id (Do s ∷ rest) held number h = absurd h
    placed_framed f id (Loop n e s ∷ rest) held number h = absurd h
    placed_framed f id (Body stmts ∷ rest) held number h = absurd h
    placed_framed f id (Close bases stmts ∷ rest) held number h = absurd h
    placed_framed f id (ForHead w s ∷ rest) held number h = absurd h
    placed_framed f id (ForNext w s ∷ rest) held number h = absurd h
    placed_framed f id (DoTest w s ∷ rest) held number h = absurd h
    placed_framed f id (Switched ∷ rest) held number h = absurd h
    placed_framed f id (Brace n result ∷ rest) held number h = absurd h
    placed_framed f id (Fetch type ∷ rest) held number h = absurd h
    placed_framed f id (Use ∷ rest) held number h = absurd h
    placed_framed f id (AsPlace ∷ rest) held number h = absurd h
    placed_framed f id (Reach c m ∷ rest) held number h = absurd h
    placed_framed f id (Sample type ∷ rest) held number h = absurd h
    placed_framed f id (FetchCells t ∷ rest) held number h = absurd h
    placed_framed f id (ApplyOne op kind ∷ rest) held number h = absurd h
    placed_framed f id (Change t ∷ rest) held number h = absurd h
    placed_framed f id (Settle ∷ rest) held number h = absurd h
    placed_framed f id (Increase up t ∷ rest) held number h = absurd h
    placed_framed f id (Store type ∷ rest) held number h = absurd h
    placed_framed f id (Apply op kind ∷ rest) held number h = absurd h
    placed_framed f id (Index t k end ∷ rest) held number h = absurd h
    placed_framed f id (IndexedBy t k end ∷ rest) held number h = absurd h
    placed_framed f id (StoreCells named t ∷ rest) held number h = absurd h
    placed_framed f id (CopyCells named t ∷ rest) held number h = absurd h
    placed_framed f id (ApplyPointers op left right ∷ rest) held number h = absurd h
    placed_framed f id (Put type ∷ rest) held number h = absurd h
    placed_framed f id (Evaluate e ∷ rest) held number h = absurd h
    placed_framed f id (Locate q ∷ rest) held number h = absurd h
    placed_framed f id (Again ∷ rest) held number h = absurd h
    placed_framed f id (Tuck ∷ rest) held number h = absurd h
    placed_framed f id (Drop ∷ rest) held number h = absurd h
    placed_framed f id (Paste base image ∷ rest) held number h = absurd h
    placed_framed f id (Decide is_and e ∷ rest) held number h = absurd h
    placed_framed f id (Pick b c ∷ rest) held number h = absurd h
    placed_framed f id (Enter site t k ∷ rest) held number h = absurd h
    placed_framed f id (Discard n ∷ rest) held number h = absurd h
    placed_framed f id (Choose n s t ∷ rest) held number h = absurd h
    placed_framed f id (Turn n e s ∷ rest) held number h = absurd h
    placed_framed f id (Deliver n ∷ rest) held number h = absurd h
    placed_framed f id (Finish n ∷ rest) held number h = absurd h
    placed_framed f id (ForTurn w s ∷ rest) held number h = absurd h
    placed_framed f id (DoTurn w s ∷ rest) held number h = absurd h
    placed_framed f id (Select n s ∷ rest) held number h = absurd h

  -- ---- arrivals

  number_of_own : (f : Function) (s : Stmt) (id : ℕ) → Of f s → number_of s ≡ Some id → IsNumber f id
  number_of_own f (Expression n x) id h e = let same : n ≡ id = cc in rw (← same) h.0
  number_of_own f (Return n x) id h e = let same : n ≡ id = cc in rw (← same) h.0
  number_of_own f (If n x s t) id h e = let same : n ≡ id = cc in rw (← same) h.0
  number_of_own f (Empty n) id h e = let same : n ≡ id = cc in rw (← same) h
  number_of_own f (ReturnNothing n) id h e = let same : n ≡ id = cc in rw (← same) h
  number_of_own f (Switch n x s) id h e = let same : n ≡ id = cc in rw (← same) h.0
  number_of_own f (Goto n name) id h e = let same : n ≡ id = cc in rw (← same) h
  number_of_own f (Break n) id h e = let same : n ≡ id = cc in rw (← same) h
  number_of_own f (Continue n) id h e = let same : n ≡ id = cc in rw (← same) h
  number_of_own f (Initialise n base cleared items) id h e = let same : n ≡ id = cc in rw (← same) h.0
  number_of_own f (Assert n predicate) id h e = let same : n ≡ id = cc in rw (← same) h
  number_of_own f (While n x s) id h e = absurd (cc)
  number_of_own f (Block bases stmts) id h e = absurd (cc)
  number_of_own f Nothing id h e = absurd (cc)
  number_of_own f (DoWhile w s) id h e = absurd (cc)
  number_of_own f (For w s) id h e = absurd (cc)
  number_of_own f (Case value s) id h e = absurd (cc)
  number_of_own f (Label name s) id h e = absurd (cc)

  pub arrives : (f : Function) (control : List Work) (held : List Held) (id : ℕ) → In f control held → arrival control ≡ Some id → IsNumber f id
  arrives f [] held id h e = absurd h
  arrives f (Frame g site ∷ rest) held id h e = absurd h
  arrives f (Do s ∷ rest) held id h e = number_of_own f s id h.0 e
  arrives f (Loop n x s ∷ rest) held id h e = let same : n ≡ id = cc in rw (← same) h.0.0
  arrives f (Body stmts ∷ rest) held id h e = absurd (cc)
  arrives f (Close bases stmts ∷ rest) held id h e = absurd (cc)
  arrives f (ForHead w s ∷ rest) held id h e = let same : w.id ≡ id = cc in rw (← same) h.0.0.0
  arrives f (ForNext w s ∷ rest) held id h e = absurd (cc)
  arrives f (DoTest w s ∷ rest) held id h e = let same : w.id ≡ id = cc in rw (← same) h.0.0.0
  arrives f (Switched ∷ rest) held id h e = absurd (cc)
  arrives f (Brace n result ∷ rest) held id h e = let same : n ≡ id = cc in rw (← same) h.0
  arrives f (Fetch type ∷ rest) held id h e = absurd (cc)
  arrives f (Use ∷ rest) held id h e = absurd (cc)
  arrives f (AsPlace ∷ rest) held id h e = absurd (cc)
  arrives f (Reach c m ∷ rest) held id h e = absurd (cc)
  arrives f (Sample type ∷ rest) held id h e = absurd (cc)
  arrives f (FetchCells u ∷ rest) held id h e = absurd (cc)
  arrives f (ApplyOne op kind ∷ rest) held id h e = absurd (cc)
  arrives f (Change u ∷ rest) held id h e = absurd (cc)
  arrives f (Settle ∷ rest) held id h e = absurd (cc)
  arrives f (Increase up u ∷ rest) held id h e = absurd (cc)
  arrives f (Store type ∷ rest) held id h e = absurd (cc)
  arrives f (Apply op kind ∷ rest) held id h e = absurd (cc)
  arrives f (Index u k end ∷ rest) held id h e = absurd (cc)
  arrives f (IndexedBy u k end ∷ rest) held id h e = absurd (cc)
  arrives f (StoreCells named u ∷ rest) held id h e = absurd (cc)
  arrives f (CopyCells named u ∷ rest) held id h e = absurd (cc)
  arrives f (ApplyPointers op left right ∷ rest) held id h e = absurd (cc)
  arrives f (Put type ∷ rest) held id h e = absurd (cc)
  arrives f (Evaluate x ∷ rest) held id h e = absurd (cc)
  arrives f (Locate q ∷ rest) held id h e = absurd (cc)
  arrives f (Again ∷ rest) held id h e = absurd (cc)
  arrives f (Tuck ∷ rest) held id h e = absurd (cc)
  arrives f (Drop ∷ rest) held id h e = absurd (cc)
  arrives f (Paste base image ∷ rest) held id h e = absurd (cc)
  arrives f (Decide is_and x ∷ rest) held id h e = absurd (cc)
  arrives f (Pick b c ∷ rest) held id h e = absurd (cc)
  arrives f (Enter site u k ∷ rest) held id h e = absurd (cc)
  arrives f (Discard n ∷ rest) held id h e = absurd (cc)
  arrives f (Choose n s u ∷ rest) held id h e = absurd (cc)
  arrives f (Turn n x s ∷ rest) held id h e = absurd (cc)
  arrives f (Deliver n ∷ rest) held id h e = absurd (cc)
  arrives f (Finish n ∷ rest) held id h e = absurd (cc)
  arrives f (ForTurn w s ∷ rest) held id h e = absurd (cc)
  arrives f (DoTurn w s ∷ rest) held id h e = absurd (cc)
  arrives f (Select n s ∷ rest) held id h e = absurd (cc)

  -- ---- the work of a state

  -- no work is left, or it is work of some function
  abbrev pub Whole : List Work → List Held → Type 0
  Whole control held = (control ≡ []) ⊎ ((f : Function) × Known f × In f control held)

  pub queued_at : (f : Function) (stmts : Stmts) (rest : List Work) (held : List Held) → AllOf f stmts → At f rest held → At f (queued stmts rest) held
  queued_at f Done rest held h k = k
  queued_at f (Next s more) rest held h k = (h.0, queued_at f more rest held h.1 k)

  -- a return leaves the caller's work, which holds one value more
  abbrev Left : List Held → Exit → Type 0
  Left held e = (v : Held) → Whole e.rest (v ∷ held)

  same_exit : (a b : Exit) → Some a ≡ Some b → a ≡ b
  same_exit a b e = cc

  framed_exits : (f : Function) (dying : List ℕ) (control : List Work) (held : List Held) (e : Exit) → Framed f control held → exit_of dying control ≡ Some e → Left held e
  framed_exits f dying [] held e h is = absurd h
  framed_exits f dying (Frame g None ∷ rest) held e h is =
      let exit : Exit = record { dying = dying; function = g; site = None; rest = rest } in subst (Left held) (same_exit exit e is) (λ v. inl h.2)
  framed_exits f dying (Frame g (Some site) ∷ rest) held e h is =
      let exit : Exit = record { dying = dying; function = g; site = Some site; rest = rest } in
      subst (Left held) (same_exit exit e is) (λ v. inr (h.1.0, h.1.1, h.1.3 v))
  framed_exits f dying (Do s ∷ rest) held e h is = absurd h
  framed_exits f dying (Loop id x s ∷ rest) held e h is = absurd h
  framed_exits f dying (Body stmts ∷ rest) held e h is = absurd h
  framed_exits f dying (Close bases stmts ∷ rest) held e h is = absurd h
  framed_exits f dying (ForHead w s ∷ rest) held e h is = absurd h
  framed_exits f dying (ForNext w s ∷ rest) held e h is = absurd h
  framed_exits f dying (DoTest w s ∷ rest) held e h is = absurd h
  framed_exits f dying (Switched ∷ rest) held e h is = absurd h
  framed_exits f dying (Brace id result ∷ rest) held e h is = absurd h
  framed_exits f dying (Fetch type ∷ rest) held e h is = absurd h
  framed_exits f dying (Use ∷ rest) held e h is = absurd h
  framed_exits f dying (AsPlace ∷ rest) held e h is = absurd h
  framed_exits f dying (Reach c m ∷ rest) held e h is = absurd h
  framed_exits f dying (Sample type ∷ rest) held e h is = absurd h
  framed_exits f dying (FetchCells t ∷ rest) held e h is = absurd h
  framed_exits f dying (ApplyOne op kind ∷ rest) held e h is = absurd h
  framed_exits f dying (Change t ∷ rest) held e h is = absurd h
  framed_exits f dying (Settle ∷ rest) held e h is = absurd h
  framed_exits f dying (Increase up t ∷ rest) held e h is = absurd h
  framed_exits f dying (Store type ∷ rest) held e h is = absurd h
  framed_exits f dying (Apply op kind ∷ rest) held e h is = absurd h
  framed_exits f dying (Index t k end ∷ rest) held e h is = absurd h
  framed_exits f dying (IndexedBy t k end ∷ rest) held e h is = absurd h
  framed_exits f dying (StoreCells named t ∷ rest) held e h is = absurd h
  framed_exits f dying (CopyCells named t ∷ rest) held e h is = absurd h
  framed_exits f dying (ApplyPointers op left right ∷ rest) held e h is = absurd h
  framed_exits f dying (Put type ∷ rest) held e h is = absurd h
  framed_exits f dying (Evaluate x ∷ rest) held e h is = absurd h
  framed_exits f dying (Locate q ∷ rest) held e h is = absurd h
  framed_exits f dying (Again ∷ rest) held e h is = absurd h
  framed_exits f dying (Tuck ∷ rest) held e h is = absurd h
  framed_exits f dying (Drop ∷ rest) held e h is = absurd h
  framed_exits f dying (Paste base image ∷ rest) held e h is = absurd h
  framed_exits f dying (Decide is_and x ∷ rest) held e h is = absurd h
  framed_exits f dying (Pick b c ∷ rest) held e h is = absurd h
  framed_exits f dying (Enter site t k ∷ rest) held e h is = absurd h
  framed_exits f dying (Discard id ∷ rest) held e h is = absurd h
  framed_exits f dying (Choose id s t ∷ rest) held e h is = absurd h
  framed_exits f dying (Turn id x s ∷ rest) held e h is = absurd h
  framed_exits f dying (Deliver id ∷ rest) held e h is = absurd h
  framed_exits f dying (Finish id ∷ rest) held e h is = absurd h
  framed_exits f dying (ForTurn w s ∷ rest) held e h is = absurd h
  framed_exits f dying (DoTurn w s ∷ rest) held e h is = absurd h
  framed_exits f dying (Select id s ∷ rest) held e h is = absurd h

  pub behind_exits : (f : Function) (dying : List ℕ) (control : List Work) (held : List Held) (e : Exit) → Behind f control held → exit_of dying control ≡ Some e → Left held e
  behind_exits f dying [] held e h is = absurd h
  behind_exits f dying (Frame g site ∷ rest) held e h is = absurd h
  behind_exits f dying (Do s ∷ rest) held e h is = absurd h
  behind_exits f dying (Loop id x s ∷ rest) held e h is = absurd h
  behind_exits f dying (Body stmts ∷ rest) held e h is = absurd h
  behind_exits f dying (Close bases stmts ∷ rest) held e h is = framed_exits f (dying ++ bases) rest held e h.1 is
  behind_exits f dying (ForHead w s ∷ rest) held e h is = absurd h
  behind_exits f dying (ForNext w s ∷ rest) held e h is = absurd h
  behind_exits f dying (DoTest w s ∷ rest) held e h is = absurd h
  behind_exits f dying (Switched ∷ rest) held e h is = absurd h
  behind_exits f dying (Brace id result ∷ rest) held e h is = absurd h
  behind_exits f dying (Fetch type ∷ rest) held e h is = absurd h
  behind_exits f dying (Use ∷ rest) held e h is = absurd h
  behind_exits f dying (AsPlace ∷ rest) held e h is = absurd h
  behind_exits f dying (Reach c m ∷ rest) held e h is = absurd h
  behind_exits f dying (Sample type ∷ rest) held e h is = absurd h
  behind_exits f dying (FetchCells t ∷ rest) held e h is = absurd h
  behind_exits f dying (ApplyOne op kind ∷ rest) held e h is = absurd h
  behind_exits f dying (Change t ∷ rest) held e h is = absurd h
  behind_exits f dying (Settle ∷ rest) held e h is = absurd h
  behind_exits f dying (Increase up t ∷ rest) held e h is = absurd h
  behind_exits f dying (Store type ∷ rest) held e h is = absurd h
  behind_exits f dying (Apply op kind ∷ rest) held e h is = absurd h
  behind_exits f dying (Index t k end ∷ rest) held e h is = absurd h
  behind_exits f dying (IndexedBy t k end ∷ rest) held e h is = absurd h
  behind_exits f dying (StoreCells named t ∷ rest) held e h is = absurd h
  behind_exits f dying (CopyCells named t ∷ rest) held e h is = absurd h
  behind_exits f dying (ApplyPointers op left right ∷ rest) held e h is = absurd h
  behind_exits f dying (Put type ∷ rest) held e h is = absurd h
  behind_exits f dying (Evaluate x ∷ rest) held e h is = absurd h
  behind_exits f dying (Locate q ∷ rest) held e h is = absurd h
  behind_exits f dying (Again ∷ rest) held e h is = absurd h
  behind_exits f dying (Tuck ∷ rest) held e h is = absurd h
  behind_exits f dying (Drop ∷ rest) held e h is = absurd h
  behind_exits f dying (Paste base image ∷ rest) held e h is = absurd h
  behind_exits f dying (Decide is_and x ∷ rest) held e h is = absurd h
  behind_exits f dying (Pick b c ∷ rest) held e h is = absurd h
  behind_exits f dying (Enter site t k ∷ rest) held e h is = absurd h
  behind_exits f dying (Discard id ∷ rest) held e h is = absurd h
  behind_exits f dying (Choose id s t ∷ rest) held e h is = absurd h
  behind_exits f dying (Turn id x s ∷ rest) held e h is = absurd h
  behind_exits f dying (Deliver id ∷ rest) held e h is = absurd h
  behind_exits f dying (Finish id ∷ rest) held e h is = absurd h
  behind_exits f dying (ForTurn w s ∷ rest) held e h is = absurd h
  behind_exits f dying (DoTurn w s ∷ rest) held e h is = absurd h
  behind_exits f dying (Select id s ∷ rest) held e h is = absurd h

  pub exits : (f : Function) (dying : List ℕ) (control : List Work) (held : List Held) (e : Exit) → At f control held → exit_of dying control ≡ Some e → Left held e
  exits f dying [] held e h is = absurd h
  exits f dying (Frame g site ∷ rest) held e h is = absurd h
  exits f dying (Do s ∷ rest) held e h is = exits f dying rest held e h.1 is
  exits f dying (Loop id x s ∷ rest) held e h is = exits f dying rest held e h.1 is
  exits f dying (Body stmts ∷ rest) held e h is = exits f dying rest held e h.1 is
  exits f dying (Close bases stmts ∷ rest) held e h is = exits f (dying ++ bases) rest held e h.1 is
  exits f dying (ForHead w s ∷ rest) held e h is = exits f dying rest held e h.1 is
  exits f dying (ForNext w s ∷ rest) held e h is = exits f dying rest held e h.1 is
  exits f dying (DoTest w s ∷ rest) held e h is = exits f dying rest held e h.1 is
  exits f dying (Switched ∷ rest) held e h is = exits f dying rest held e h is
  exits f dying (Brace id result ∷ rest) held e h is = behind_exits f dying rest held e h.1 is
  exits f dying (Fetch type ∷ rest) held e h is = absurd h
  exits f dying (Use ∷ rest) held e h is = absurd h
  exits f dying (AsPlace ∷ rest) held e h is = absurd h
  exits f dying (Reach c m ∷ rest) held e h is = absurd h
  exits f dying (Sample type ∷ rest) held e h is = absurd h
  exits f dying (FetchCells t ∷ rest) held e h is = absurd h
  exits f dying (ApplyOne op kind ∷ rest) held e h is = absurd h
  exits f dying (Change t ∷ rest) held e h is = absurd h
  exits f dying (Settle ∷ rest) held e h is = absurd h
  exits f dying (Increase up t ∷ rest) held e h is = absurd h
  exits f dying (Store type ∷ rest) held e h is = absurd h
  exits f dying (Apply op kind ∷ rest) held e h is = absurd h
  exits f dying (Index t k end ∷ rest) held e h is = absurd h
  exits f dying (IndexedBy t k end ∷ rest) held e h is = absurd h
  exits f dying (StoreCells named t ∷ rest) held e h is = absurd h
  exits f dying (CopyCells named t ∷ rest) held e h is = absurd h
  exits f dying (ApplyPointers op left right ∷ rest) held e h is = absurd h
  exits f dying (Put type ∷ rest) held e h is = absurd h
  exits f dying (Evaluate x ∷ rest) held e h is = absurd h
  exits f dying (Locate q ∷ rest) held e h is = absurd h
  exits f dying (Again ∷ rest) held e h is = absurd h
  exits f dying (Tuck ∷ rest) held e h is = absurd h
  exits f dying (Drop ∷ rest) held e h is = absurd h
  exits f dying (Paste base image ∷ rest) held e h is = absurd h
  exits f dying (Decide is_and x ∷ rest) held e h is = absurd h
  exits f dying (Pick b c ∷ rest) held e h is = absurd h
  exits f dying (Enter site t k ∷ rest) held e h is = absurd h
  exits f dying (Discard id ∷ rest) held e h is = absurd h
  exits f dying (Choose id s t ∷ rest) held e h is = absurd h
  exits f dying (Turn id x s ∷ rest) held e h is = absurd h
  exits f dying (Deliver id ∷ rest) held e h is = absurd h
  exits f dying (Finish id ∷ rest) held e h is = absurd h
  exits f dying (ForTurn w s ∷ rest) held e h is = absurd h
  exits f dying (DoTurn w s ∷ rest) held e h is = absurd h
  exits f dying (Select id s ∷ rest) held e h is = absurd h
