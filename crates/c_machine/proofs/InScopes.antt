-- Work stands in scopes: its statements were checked in the scopes in progress, whose objects are those of the functions in progress.
use Rattle.std.proofs.Common.{◌≡◌, ◌≢◌, ℕ, ◌==◌, ◌⊎◌, inl, inr, Bool, true, false, ◌||◌, IsTrue, List, [], ◌∷◌, ◌++◌, Some, refl, sym, ◌∙◌, subst, append_assoc}
use Rattle.c_base.proofs.Tests.{same_test}
use Rattle.c_program.specs.Syntax.{Stmt, Expression, Return, If, While, Block, Nothing, Empty, ReturnNothing, DoWhile, For, Switch, Case, Label, Goto, Break, Continue, Initialise, Assert, Stmts, Done, Next, Program}
use Rattle.c_program.specs.Valid.{is_among, is_taken, AreNew, IsScoped, AreScoped, AreOf, HasOwn, HaveOwn}
use Rattle.c_machine.specs.Machine.{Work, Do, Evaluate, Locate, Fetch, Store, Apply, Discard, Choose, Loop, Turn, Deliver, Body, Brace, Close, Frame, Use, AsPlace, Reach, Index, IndexedBy, Sample, FetchCells, StoreCells, CopyCells, ApplyOne, Change, ApplyPointers, Decide, Settle, Pick, Again, Tuck, Increase, Drop, Enter, Put, Paste, Finish, ForHead, ForNext, ForTurn, DoTest, DoTurn, Select, Switched, queued, scopes_of, Exit, exit_of}
use Rattle.c_machine.specs.Laws.{functions_in}
use Rattle.c_machine.proofs.Living.{among_append, taken_append}

pub or_false : (a b : Bool) → (a || b) ≡ false → b ≡ false
or_false true b h = absurd (cc)
or_false false b h = h

pub queued_scopes : (stmts : Stmts) (rest : List Work) → scopes_of (queued stmts rest) ≡ scopes_of rest
queued_scopes Done rest = refl
queued_scopes (Next s more) rest = queued_scopes more rest

pub queued_functions : (stmts : Stmts) (rest : List Work) → functions_in (queued stmts rest) ≡ functions_in rest
queued_functions Done rest = refl
queued_functions (Next s more) rest = queued_functions more rest

module _ (p : Program) (owner : ℕ → ℕ) where
  -- new objects of the function
  abbrev pub AreOwn : ℕ → List ℕ → List ℕ → Type 0
  AreOwn f outer bases = AreNew p outer bases × AreOf owner f bases

  -- a statement of the function stands in these scopes, with new objects in its blocks
  abbrev mutual
    pub Stands : ℕ → List ℕ → Stmt → Type 0
    Stands f outer (If id e s t) = Stands f outer s × Stands f outer t
    Stands f outer (While id e s) = Stands f outer s
    Stands f outer (Block bases stmts) = AreOwn f outer bases × AllStand f (bases ++ outer) stmts
    Stands f outer (DoWhile h s) = Stands f outer s
    Stands f outer (For h s) = Stands f outer s
    Stands f outer (Switch id e s) = Stands f outer s
    Stands f outer (Case value s) = Stands f outer s
    Stands f outer (Label name s) = Stands f outer s
    Stands f outer s = Unit {0}

    pub AllStand : ℕ → List ℕ → Stmts → Type 0
    AllStand f outer Done = Unit {0}
    AllStand f outer (Next s more) = Stands f outer s × AllStand f outer more

  -- work of the function f, behind which its frame and the work of its caller stand
  abbrev pub In : ℕ → List Work → Type 0
  In f [] = ⊥
  In f (Close bases stmts ∷ rest) = AreOwn f (scopes_of rest) bases × AllStand f (bases ++ scopes_of rest) stmts × In f rest
  In f (Body stmts ∷ rest) = AllStand f (scopes_of rest) stmts × In f rest
  In f (Frame g site ∷ rest) = (f ≡ g) × ((rest ≡ []) ⊎ ((h : ℕ) × In h rest))
  In f (Choose id s t ∷ rest) = Stands f (scopes_of rest) s × Stands f (scopes_of rest) t × In f rest
  In f (Do s ∷ rest) = Stands f (scopes_of rest) s × In f rest
  In f (Loop id e s ∷ rest) = Stands f (scopes_of rest) s × In f rest
  In f (Turn id e s ∷ rest) = Stands f (scopes_of rest) s × In f rest
  In f (ForHead h s ∷ rest) = Stands f (scopes_of rest) s × In f rest
  In f (ForNext h s ∷ rest) = Stands f (scopes_of rest) s × In f rest
  In f (ForTurn h s ∷ rest) = Stands f (scopes_of rest) s × In f rest
  In f (DoTest h s ∷ rest) = Stands f (scopes_of rest) s × In f rest
  In f (DoTurn h s ∷ rest) = Stands f (scopes_of rest) s × In f rest
  In f (Select id s ∷ rest) = Stands f (scopes_of rest) s × In f rest
  In f (work ∷ rest) = In f rest

  abbrev pub InScopes : List Work → Type 0
  InScopes control = (control ≡ []) ⊎ ((f : ℕ) × In f control)

  pub queued_in : (f : ℕ) (stmts : Stmts) (rest : List Work) → AllStand f (scopes_of rest) stmts → In f rest → In f (queued stmts rest)
  queued_in f Done rest h k = k
  queued_in f (Next s more) rest h k = (subst (λ scopes. Stands f scopes s) (sym (queued_scopes more rest)) h.0, queued_in f more rest h.1 k)

  -- ---- whose objects they are

  in_progress : (f : ℕ) (control : List Work) → In f control → is_among (functions_in control) f ≡ true
  in_progress f [] h = absurd h
  in_progress f (Frame g site ∷ rest) h = rw (h.0, same_test g) refl
  in_progress f (Close bases stmts ∷ rest) h = in_progress f rest h.2
  in_progress f (Body stmts ∷ rest) h = in_progress f rest h.1
  in_progress f (Choose id s t ∷ rest) h = in_progress f rest h.2
  in_progress f (Do s ∷ rest) h = in_progress f rest h.1
  in_progress f (Loop id e s ∷ rest) h = in_progress f rest h.1
  in_progress f (Turn id e s ∷ rest) h = in_progress f rest h.1
  in_progress f (ForHead p s ∷ rest) h = in_progress f rest h.1
  in_progress f (ForNext p s ∷ rest) h = in_progress f rest h.1
  in_progress f (ForTurn p s ∷ rest) h = in_progress f rest h.1
  in_progress f (DoTest p s ∷ rest) h = in_progress f rest h.1
  in_progress f (DoTurn p s ∷ rest) h = in_progress f rest h.1
  in_progress f (Select id s ∷ rest) h = in_progress f rest h.1
  in_progress f (Evaluate e ∷ rest) h = in_progress f rest h
  in_progress f (Locate q ∷ rest) h = in_progress f rest h
  in_progress f (Fetch type ∷ rest) h = in_progress f rest h
  in_progress f (Store type ∷ rest) h = in_progress f rest h
  in_progress f (Apply op kind ∷ rest) h = in_progress f rest h
  in_progress f (Discard id ∷ rest) h = in_progress f rest h
  in_progress f (Deliver id ∷ rest) h = in_progress f rest h
  in_progress f (Brace id result ∷ rest) h = in_progress f rest h
  in_progress f (Use ∷ rest) h = in_progress f rest h
  in_progress f (AsPlace ∷ rest) h = in_progress f rest h
  in_progress f (Reach c m ∷ rest) h = in_progress f rest h
  in_progress f (Index t k end ∷ rest) h = in_progress f rest h
  in_progress f (IndexedBy t k end ∷ rest) h = in_progress f rest h
  in_progress f (Sample type ∷ rest) h = in_progress f rest h
  in_progress f (FetchCells t ∷ rest) h = in_progress f rest h
  in_progress f (StoreCells named t ∷ rest) h = in_progress f rest h
  in_progress f (CopyCells named t ∷ rest) h = in_progress f rest h
  in_progress f (ApplyOne op kind ∷ rest) h = in_progress f rest h
  in_progress f (Change t ∷ rest) h = in_progress f rest h
  in_progress f (ApplyPointers op left right ∷ rest) h = in_progress f rest h
  in_progress f (Decide is_and e ∷ rest) h = in_progress f rest h
  in_progress f (Settle ∷ rest) h = in_progress f rest h
  in_progress f (Pick b c ∷ rest) h = in_progress f rest h
  in_progress f (Again ∷ rest) h = in_progress f rest h
  in_progress f (Tuck ∷ rest) h = in_progress f rest h
  in_progress f (Increase up t ∷ rest) h = in_progress f rest h
  in_progress f (Drop ∷ rest) h = in_progress f rest h
  in_progress f (Enter site t k ∷ rest) h = in_progress f rest h
  in_progress f (Put type ∷ rest) h = in_progress f rest h
  in_progress f (Paste base image ∷ rest) h = in_progress f rest h
  in_progress f (Finish id ∷ rest) h = in_progress f rest h
  in_progress f (Switched ∷ rest) h = in_progress f rest h

  or_right : (a b : Bool) → b ≡ true → (a || b) ≡ true
  or_right true b h = refl
  or_right false b h = h

  mutual
    -- the objects of the scopes in progress belong to functions in progress
    owned_in : (f : ℕ) (control : List Work) (base : ℕ) → In f control → is_among (scopes_of control) base ≡ true → is_among (functions_in control) (owner base) ≡ true
    owned_in f [] base h is = absurd h
    owned_in f (Frame g site ∷ rest) base h is = or_right (owner base == g) (is_among (functions_in rest) (owner base)) (by_caller (λ c k. owned_in c rest base k is) h.1)
      where
        by_caller : ((c : ℕ) → In c rest → is_among (functions_in rest) (owner base) ≡ true) → (rest ≡ []) ⊎ ((c : ℕ) × In c rest) → is_among (functions_in rest) (owner base) ≡ true
        by_caller later (inl e) = let none : is_among (scopes_of []) base ≡ true = rw e at is in absurd (cc)
        by_caller later (inr (c, k)) = later c k
    owned_in f (Close bases stmts ∷ rest) base h is = by_test (owned_in f rest base h.2) (is_among bases base) refl (rw (among_append bases (scopes_of rest) base) at is)
      where
        by_test : (is_among (scopes_of rest) base ≡ true → is_among (functions_in rest) (owner base) ≡ true) → (t : Bool) → is_among bases base ≡ t →
            (is_among bases base || is_among (scopes_of rest) base) ≡ true → is_among (functions_in rest) (owner base) ≡ true
        by_test later true e here = let own : owner base ≡ f = h.0.1 base e in rw own (in_progress f rest h.2)
        by_test later false e here = later (rw e at here)
    owned_in f (Body stmts ∷ rest) base h is = owned_in f rest base h.1 is
    owned_in f (Choose id s t ∷ rest) base h is = owned_in f rest base h.2 is
    owned_in f (Do s ∷ rest) base h is = owned_in f rest base h.1 is
    owned_in f (Loop id e s ∷ rest) base h is = owned_in f rest base h.1 is
    owned_in f (Turn id e s ∷ rest) base h is = owned_in f rest base h.1 is
    owned_in f (ForHead p s ∷ rest) base h is = owned_in f rest base h.1 is
    owned_in f (ForNext p s ∷ rest) base h is = owned_in f rest base h.1 is
    owned_in f (ForTurn p s ∷ rest) base h is = owned_in f rest base h.1 is
    owned_in f (DoTest p s ∷ rest) base h is = owned_in f rest base h.1 is
    owned_in f (DoTurn p s ∷ rest) base h is = owned_in f rest base h.1 is
    owned_in f (Select id s ∷ rest) base h is = owned_in f rest base h.1 is
    owned_in f (Evaluate e ∷ rest) base h is = owned_in f rest base h is
    owned_in f (Locate q ∷ rest) base h is = owned_in f rest base h is
    owned_in f (Fetch type ∷ rest) base h is = owned_in f rest base h is
    owned_in f (Store type ∷ rest) base h is = owned_in f rest base h is
    owned_in f (Apply op kind ∷ rest) base h is = owned_in f rest base h is
    owned_in f (Discard id ∷ rest) base h is = owned_in f rest base h is
    owned_in f (Deliver id ∷ rest) base h is = owned_in f rest base h is
    owned_in f (Brace id result ∷ rest) base h is = owned_in f rest base h is
    owned_in f (Use ∷ rest) base h is = owned_in f rest base h is
    owned_in f (AsPlace ∷ rest) base h is = owned_in f rest base h is
    owned_in f (Reach c m ∷ rest) base h is = owned_in f rest base h is
    owned_in f (Index t k end ∷ rest) base h is = owned_in f rest base h is
    owned_in f (IndexedBy t k end ∷ rest) base h is = owned_in f rest base h is
    owned_in f (Sample type ∷ rest) base h is = owned_in f rest base h is
    owned_in f (FetchCells t ∷ rest) base h is = owned_in f rest base h is
    owned_in f (StoreCells named t ∷ rest) base h is = owned_in f rest base h is
    owned_in f (CopyCells named t ∷ rest) base h is = owned_in f rest base h is
    owned_in f (ApplyOne op kind ∷ rest) base h is = owned_in f rest base h is
    owned_in f (Change t ∷ rest) base h is = owned_in f rest base h is
    owned_in f (ApplyPointers op left right ∷ rest) base h is = owned_in f rest base h is
    owned_in f (Decide is_and e ∷ rest) base h is = owned_in f rest base h is
    owned_in f (Settle ∷ rest) base h is = owned_in f rest base h is
    owned_in f (Pick b c ∷ rest) base h is = owned_in f rest base h is
    owned_in f (Again ∷ rest) base h is = owned_in f rest base h is
    owned_in f (Tuck ∷ rest) base h is = owned_in f rest base h is
    owned_in f (Increase up t ∷ rest) base h is = owned_in f rest base h is
    owned_in f (Drop ∷ rest) base h is = owned_in f rest base h is
    owned_in f (Enter site t k ∷ rest) base h is = owned_in f rest base h is
    owned_in f (Put type ∷ rest) base h is = owned_in f rest base h is
    owned_in f (Paste object image ∷ rest) base h is = owned_in f rest base h is
    owned_in f (Finish id ∷ rest) base h is = owned_in f rest base h is
    owned_in f (Switched ∷ rest) base h is = owned_in f rest base h is

  pub owned : (control : List Work) (base : ℕ) → InScopes control → is_among (scopes_of control) base ≡ true → is_among (functions_in control) (owner base) ≡ true
  owned control base (inl e) is = let none : is_among (scopes_of []) base ≡ true = rw e at is in absurd (cc)
  owned control base (inr (f, h)) is = owned_in f control base h is

  -- ---- a function's statements where other functions are in progress

  new_beside : (f : ℕ) (outer more bases : List ℕ) → ((base : ℕ) → is_among more base ≡ true → owner base ≢ f) → AreNew p outer bases → AreOf owner f bases → AreNew p (outer ++ more) bases
  new_beside f outer more bases apart new own = record { each = λ base among. taken_append_false base (new.each base among) (by_test base among (is_among more base) refl) }
    where
      by_test : (base : ℕ) → IsTrue (is_among bases base) → (t : Bool) → is_among more base ≡ t → is_among more base ≡ false
      by_test base among true e = absurd (apart base e (own base among))
      by_test base among false e = e

      all_false : (a b c : Bool) → (a || c) ≡ false → b ≡ false → ((a || b) || c) ≡ false
      all_false true b c h k = absurd (cc)
      all_false false true c h k = absurd (cc)
      all_false false false c h k = h

      taken_append_false : (base : ℕ) → is_taken p outer base ≡ false → is_among more base ≡ false → is_taken p (outer ++ more) base ≡ false
      taken_append_false base h k = rw (among_append outer more base) (all_false (is_among outer base) (is_among more base) _ h k)

  mutual
    pub stands_beside : (f : ℕ) (outer more : List ℕ) (s : Stmt) → ((base : ℕ) → is_among more base ≡ true → owner base ≢ f) → IsScoped p outer s → HasOwn owner f s →
        Stands f (outer ++ more) s
    stands_beside f outer more (If id e s t) apart h k = (stands_beside f outer more s apart h.0 k.0, stands_beside f outer more t apart h.1 k.1)
    stands_beside f outer more (While id e s) apart h k = stands_beside f outer more s apart h k
    stands_beside f outer more (Block bases stmts) apart h k = (
      (new_beside f outer more bases apart h.0 k.0, k.0),
      subst (λ scopes. AllStand f scopes stmts) (append_assoc bases outer more) (all_beside f (bases ++ outer) more stmts apart h.1 k.1),
    )
    stands_beside f outer more (DoWhile w s) apart h k = stands_beside f outer more s apart h k
    stands_beside f outer more (For w s) apart h k = stands_beside f outer more s apart h k
    stands_beside f outer more (Switch id e s) apart h k = stands_beside f outer more s apart h k
    stands_beside f outer more (Case value s) apart h k = stands_beside f outer more s apart h k
    stands_beside f outer more (Label name s) apart h k = stands_beside f outer more s apart h k
    stands_beside f outer more (Expression id e) apart h k = tt
    stands_beside f outer more (Return id e) apart h k = tt
    stands_beside f outer more Nothing apart h k = tt
    stands_beside f outer more (Empty id) apart h k = tt
    stands_beside f outer more (ReturnNothing id) apart h k = tt
    stands_beside f outer more (Goto id label) apart h k = tt
    stands_beside f outer more (Break id) apart h k = tt
    stands_beside f outer more (Continue id) apart h k = tt
    stands_beside f outer more (Initialise id base cleared items) apart h k = tt
    stands_beside f outer more (Assert id predicate) apart h k = tt

    pub all_beside : (f : ℕ) (outer more : List ℕ) (stmts : Stmts) → ((base : ℕ) → is_among more base ≡ true → owner base ≢ f) → AreScoped p outer stmts → HaveOwn owner f stmts →
        AllStand f (outer ++ more) stmts
    all_beside f outer more Done apart h k = tt
    all_beside f outer more (Next s rest) apart h k = (stands_beside f outer more s apart h.0 k.0, all_beside f outer more rest apart h.1 k.1)

  -- ---- ways out

  pub record WayOut (all : List ℕ) (e : Exit) : Type 0 where
    pub new : AreNew p (scopes_of e.rest) e.dying
    pub scoped : InScopes e.rest
    pub same : e.dying ++ scopes_of e.rest ≡ all

  pub nothing_new : (outer : List ℕ) → AreNew p outer []
  nothing_new outer = record { each = λ base h. absurd (cc) }

  pub more_new : (outer bases dying : List ℕ) → AreNew p outer bases → AreNew p (bases ++ outer) dying → AreNew p outer (dying ++ bases)
  more_new outer bases dying h k = record { each = λ base among. by_test base (is_among dying base) refl (rw (among_append dying bases base) at among) }
    where
      by_test : (base : ℕ) (t : Bool) → is_among dying base ≡ t → IsTrue (is_among dying base || is_among bases base) → is_taken p outer base ≡ false
      by_test base true e among = or_false (is_among bases base) (is_taken p outer base) (sym (taken_append p bases outer base) ∙ k.each base e)
      by_test base false e among = h.each base (rw e at among)

  pub way_out : (f : ℕ) (dying : List ℕ) (control : List Work) (e : Exit) → AreNew p (scopes_of control) dying → In f control → exit_of dying control ≡ Some e →
      WayOut (dying ++ scopes_of control) e
  way_out f dying [] e new h is = absurd (cc)
  way_out f dying (Frame function site ∷ rest) e new h is =
      let exit : Exit = record { dying = dying; function = function; site = site; rest = rest } in
      let same : Some exit ≡ Some e = is in
      let here : exit ≡ e = cc in
      subst (WayOut (dying ++ scopes_of rest)) here (record { new = new; scoped = h.1; same = refl })
  way_out f dying (Close bases stmts ∷ rest) e new h is =
      subst (λ all. WayOut all e) (append_assoc dying bases (scopes_of rest)) (way_out f (dying ++ bases) rest e (more_new (scopes_of rest) bases dying h.0.0 new) h.2 is)
  way_out f dying (Body stmts ∷ rest) e new h is = way_out f dying rest e new h.1 is
  way_out f dying (Choose id s t ∷ rest) e new h is = way_out f dying rest e new h.2 is
  way_out f dying (Do s ∷ rest) e new h is = way_out f dying rest e new h.1 is
  way_out f dying (Loop id x s ∷ rest) e new h is = way_out f dying rest e new h.1 is
  way_out f dying (Turn id x s ∷ rest) e new h is = way_out f dying rest e new h.1 is
  way_out f dying (ForHead p s ∷ rest) e new h is = way_out f dying rest e new h.1 is
  way_out f dying (ForNext p s ∷ rest) e new h is = way_out f dying rest e new h.1 is
  way_out f dying (ForTurn p s ∷ rest) e new h is = way_out f dying rest e new h.1 is
  way_out f dying (DoTest p s ∷ rest) e new h is = way_out f dying rest e new h.1 is
  way_out f dying (DoTurn p s ∷ rest) e new h is = way_out f dying rest e new h.1 is
  way_out f dying (Select id s ∷ rest) e new h is = way_out f dying rest e new h.1 is
  way_out f dying (Evaluate x ∷ rest) e new h is = way_out f dying rest e new h is
  way_out f dying (Locate q ∷ rest) e new h is = way_out f dying rest e new h is
  way_out f dying (Fetch type ∷ rest) e new h is = way_out f dying rest e new h is
  way_out f dying (Store type ∷ rest) e new h is = way_out f dying rest e new h is
  way_out f dying (Apply op kind ∷ rest) e new h is = way_out f dying rest e new h is
  way_out f dying (Discard id ∷ rest) e new h is = way_out f dying rest e new h is
  way_out f dying (Deliver id ∷ rest) e new h is = way_out f dying rest e new h is
  way_out f dying (Brace id result ∷ rest) e new h is = way_out f dying rest e new h is
  way_out f dying (Use ∷ rest) e new h is = way_out f dying rest e new h is
  way_out f dying (AsPlace ∷ rest) e new h is = way_out f dying rest e new h is
  way_out f dying (Reach c m ∷ rest) e new h is = way_out f dying rest e new h is
  way_out f dying (Index t k end ∷ rest) e new h is = way_out f dying rest e new h is
  way_out f dying (IndexedBy t k end ∷ rest) e new h is = way_out f dying rest e new h is
  way_out f dying (Sample type ∷ rest) e new h is = way_out f dying rest e new h is
  way_out f dying (FetchCells t ∷ rest) e new h is = way_out f dying rest e new h is
  way_out f dying (StoreCells named t ∷ rest) e new h is = way_out f dying rest e new h is
  way_out f dying (CopyCells named t ∷ rest) e new h is = way_out f dying rest e new h is
  way_out f dying (ApplyOne op kind ∷ rest) e new h is = way_out f dying rest e new h is
  way_out f dying (Change t ∷ rest) e new h is = way_out f dying rest e new h is
  way_out f dying (ApplyPointers op left right ∷ rest) e new h is = way_out f dying rest e new h is
  way_out f dying (Decide is_and x ∷ rest) e new h is = way_out f dying rest e new h is
  way_out f dying (Settle ∷ rest) e new h is = way_out f dying rest e new h is
  way_out f dying (Pick b c ∷ rest) e new h is = way_out f dying rest e new h is
  way_out f dying (Again ∷ rest) e new h is = way_out f dying rest e new h is
  way_out f dying (Tuck ∷ rest) e new h is = way_out f dying rest e new h is
  way_out f dying (Increase up t ∷ rest) e new h is = way_out f dying rest e new h is
  way_out f dying (Drop ∷ rest) e new h is = way_out f dying rest e new h is
  way_out f dying (Enter site t k ∷ rest) e new h is = way_out f dying rest e new h is
  way_out f dying (Put type ∷ rest) e new h is = way_out f dying rest e new h is
  way_out f dying (Paste base image ∷ rest) e new h is = way_out f dying rest e new h is
  way_out f dying (Finish id ∷ rest) e new h is = way_out f dying rest e new h is
  way_out f dying (Switched ∷ rest) e new h is = way_out f dying rest e new h is
