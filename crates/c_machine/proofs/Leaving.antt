-- Jumps stay in scopes: what dies is what is left.
use Rattle.std.proofs.Common.{◌≡◌, ℕ, Bool, true, false, cond, List, [], ◌∷◌, ◌++◌, Option, None, Some, ℤ, refl, sym, ap, subst, append_assoc}
use Rattle.std.specs.Prelude.{bytes_eq}
use Rattle.c_program.specs.Syntax.{Stmt, Expression, Return, If, While, Block, Nothing, Empty, ReturnNothing, DoWhile, For, Switch, Case, Label, Goto, Break, Continue, Initialise, Assert, Stmts, Done, Next, Program}
use Rattle.c_program.specs.Valid.{AreNew}
use Rattle.c_machine.specs.Machine.{Work, Do, Evaluate, Locate, Fetch, Store, Apply, Discard, Choose, Loop, Turn, Deliver, Body, Brace, Close, Frame, Use, AsPlace, Reach, Index, IndexedBy, Sample, FetchCells, StoreCells, CopyCells, ApplyOne, Change, ApplyPointers, Decide, Settle, Pick, Again, Tuck, Increase, Drop, Enter, Put, Paste, Finish, ForHead, ForNext, ForTurn, DoTest, DoTurn, Select, Switched, queued, scopes_of}
use Rattle.c_machine.specs.Jumps.{Jump, first_some, at_label, at_label_in, jump_or, jump_to, jump_behind, jump_on, same_case, at_case, at_case_in, Entry, entry_at, selected}
use Rattle.c_machine.proofs.InScopes.{Stands, AllStand, In, queued_scopes, queued_in, more_new}

module _ (p : Program) (owner : ℕ → ℕ) where
  abbrev Stand : ℕ → List ℕ → Stmt → Type 0
  Stand f outer s = Stands p owner f outer s

  abbrev AllOf : ℕ → List ℕ → Stmts → Type 0
  AllOf f outer stmts = AllStand p owner f outer stmts

  abbrev Within : ℕ → List Work → Type 0
  Within f control = In p owner f control

  -- an option has work of the function in these scopes
  abbrev Lands : ℕ → List ℕ → Option (List Work) → Type 0
  Lands f scopes None = Unit {0}
  Lands f scopes (Some control) = Within f control × (scopes_of control ≡ scopes)

  first_lands : (f : ℕ) (scopes : List ℕ) (a b : Option (List Work)) → Lands f scopes a → Lands f scopes b → Lands f scopes (first_some a b)
  first_lands f scopes None b h k = k
  first_lands f scopes (Some a) b h k = h

  -- one statement of a list stands before the others
  before_others : (f : ℕ) (s : Stmt) (more : Stmts) (rest : List Work) → Stand f (scopes_of rest) s → Stand f (scopes_of (queued more rest)) s
  before_others f s more rest h = subst (λ scopes. Stand f scopes s) (sym (queued_scopes more rest)) h

  lands_before : (f : ℕ) (more : Stmts) (rest : List Work) (o : Option (List Work)) → Lands f (scopes_of (queued more rest)) o → Lands f (scopes_of rest) o
  lands_before f more rest o h = subst (λ scopes. Lands f scopes o) (queued_scopes more rest) h

  -- ---- labels

  label_lands : (f : ℕ) (name : List ℕ) (s : Stmt) (rest : List Work) → Stand f (scopes_of rest) s → Within f rest → Lands f (scopes_of rest) (at_label name s rest)
  label_lands f name (Expression id e) rest h k = tt
  label_lands f name (Return id e) rest h k = tt
  label_lands f name Nothing rest h k = tt
  label_lands f name (Empty id) rest h k = tt
  label_lands f name (ReturnNothing id) rest h k = tt
  label_lands f name (Goto id label) rest h k = tt
  label_lands f name (Break id) rest h k = tt
  label_lands f name (Continue id) rest h k = tt
  label_lands f name (Initialise id base cleared items) rest h k = tt
  label_lands f name (Assert id predicate) rest h k = tt
  label_lands f name (Block bases stmts) rest h k = tt
  label_lands f name (Label label s) rest h k = by_name (label_lands f name s rest h k) (bytes_eq label name)
    where
      by_name : Lands f (scopes_of rest) (at_label name s rest) → (t : Bool) → Lands f (scopes_of rest) (cond t (Some (Do s ∷ rest)) (at_label name s rest))
      by_name inside true = ((h, k), refl)
      by_name inside false = inside
  label_lands f name (If id e s t) rest h k =
      first_lands f (scopes_of rest) (at_label name s rest) (at_label name t rest) (label_lands f name s rest h.0 k) (label_lands f name t rest h.1 k)
  label_lands f name (While id e s) rest h k = label_lands f name s (Loop id e s ∷ rest) h (h, k)
  label_lands f name (DoWhile w s) rest h k = label_lands f name s (DoTest w s ∷ rest) h (h, k)
  label_lands f name (For w s) rest h k = label_lands f name s (ForNext w s ∷ rest) h (h, k)
  label_lands f name (Switch id e s) rest h k = label_lands f name s (Switched ∷ rest) h k
  label_lands f name (Case value s) rest h k = label_lands f name s rest h k

  labels_land : (f : ℕ) (name : List ℕ) (stmts : Stmts) (rest : List Work) → AllOf f (scopes_of rest) stmts → Within f rest → Lands f (scopes_of rest) (at_label_in name stmts rest)
  labels_land f name Done rest h k = tt
  labels_land f name (Next s more) rest h k =
      first_lands f (scopes_of rest) (at_label name s (queued more rest)) (at_label_in name more rest)
      (lands_before f more rest (at_label name s (queued more rest))
      (label_lands f name s (queued more rest) (before_others f s more rest h.0) (queued_in p owner f more rest h.1 k)))
      (labels_land f name more rest h.1 k)

  pub record Landing (f : ℕ) (all : List ℕ) (j : Jump) : Type 0 where
    pub new : AreNew p (scopes_of j.control) j.dying
    pub stands : Within f j.control
    pub same : j.dying ++ scopes_of j.control ≡ all

  abbrev pub OnJump : ℕ → List ℕ → Option Jump → Type 0
  OnJump f all None = Unit {0}
  OnJump f all (Some j) = Landing f all j

  or_lands : (f : ℕ) (dying scopes : List ℕ) (inside : Option (List Work)) (outside : Option Jump) → AreNew p scopes dying → Lands f scopes inside →
      OnJump f (dying ++ scopes) outside → OnJump f (dying ++ scopes) (jump_or dying inside outside)
  or_lands f dying scopes None outside new h k = k
  or_lands f dying scopes (Some control) outside new h k = record {
    new = subst (λ x. AreNew p x dying) (sym h.1) new;
    stands = h.0;
    same = ap (λ x. dying ++ x) h.1;
  }

  pub goto_lands : (f : ℕ) (name : List ℕ) (dying : List ℕ) (control : List Work) → AreNew p (scopes_of control) dying → Within f control → OnJump f (dying ++ scopes_of control) (jump_to name dying control)
  goto_lands f name dying [] new h = tt
  goto_lands f name dying (Frame g site ∷ rest) new h = tt
  goto_lands f name dying (Close bases stmts ∷ rest) new h =
      or_lands f dying (bases ++ scopes_of rest) (at_label_in name stmts (Close bases stmts ∷ rest)) (jump_to name (dying ++ bases) rest) new
      (labels_land f name stmts (Close bases stmts ∷ rest) h.1 h)
      (subst (λ all. OnJump f all (jump_to name (dying ++ bases) rest)) (append_assoc dying bases (scopes_of rest))
      (goto_lands f name (dying ++ bases) rest (more_new p owner (scopes_of rest) bases dying h.0.0 new) h.2))
  goto_lands f name dying (Body stmts ∷ rest) new h =
      or_lands f dying (scopes_of rest) (at_label_in name stmts (Body stmts ∷ rest)) (jump_to name dying rest) new (labels_land f name stmts (Body stmts ∷ rest) h.0 h)
      (goto_lands f name dying rest new h.1)
  goto_lands f name dying (Choose id s t ∷ rest) new h = goto_lands f name dying rest new h.2
  goto_lands f name dying (Do s ∷ rest) new h = goto_lands f name dying rest new h.1
  goto_lands f name dying (Loop id e s ∷ rest) new h = goto_lands f name dying rest new h.1
  goto_lands f name dying (Turn id e s ∷ rest) new h = goto_lands f name dying rest new h.1
  goto_lands f name dying (ForHead w s ∷ rest) new h = goto_lands f name dying rest new h.1
  goto_lands f name dying (ForNext w s ∷ rest) new h = goto_lands f name dying rest new h.1
  goto_lands f name dying (ForTurn w s ∷ rest) new h = goto_lands f name dying rest new h.1
  goto_lands f name dying (DoTest w s ∷ rest) new h = goto_lands f name dying rest new h.1
  goto_lands f name dying (DoTurn w s ∷ rest) new h = goto_lands f name dying rest new h.1
  goto_lands f name dying (Select id s ∷ rest) new h = goto_lands f name dying rest new h.1
  goto_lands f name dying (Evaluate e ∷ rest) new h = goto_lands f name dying rest new h
  goto_lands f name dying (Locate q ∷ rest) new h = goto_lands f name dying rest new h
  goto_lands f name dying (Fetch type ∷ rest) new h = goto_lands f name dying rest new h
  goto_lands f name dying (Store type ∷ rest) new h = goto_lands f name dying rest new h
  goto_lands f name dying (Apply op kind ∷ rest) new h = goto_lands f name dying rest new h
  goto_lands f name dying (Discard id ∷ rest) new h = goto_lands f name dying rest new h
  goto_lands f name dying (Deliver id ∷ rest) new h = goto_lands f name dying rest new h
  goto_lands f name dying (Brace id result ∷ rest) new h = goto_lands f name dying rest new h
  goto_lands f name dying (Use ∷ rest) new h = goto_lands f name dying rest new h
  goto_lands f name dying (AsPlace ∷ rest) new h = goto_lands f name dying rest new h
  goto_lands f name dying (Reach c m ∷ rest) new h = goto_lands f name dying rest new h
  goto_lands f name dying (Index t k end ∷ rest) new h = goto_lands f name dying rest new h
  goto_lands f name dying (IndexedBy t k end ∷ rest) new h = goto_lands f name dying rest new h
  goto_lands f name dying (Sample type ∷ rest) new h = goto_lands f name dying rest new h
  goto_lands f name dying (FetchCells t ∷ rest) new h = goto_lands f name dying rest new h
  goto_lands f name dying (StoreCells named t ∷ rest) new h = goto_lands f name dying rest new h
  goto_lands f name dying (CopyCells named t ∷ rest) new h = goto_lands f name dying rest new h
  goto_lands f name dying (ApplyOne op kind ∷ rest) new h = goto_lands f name dying rest new h
  goto_lands f name dying (Change t ∷ rest) new h = goto_lands f name dying rest new h
  goto_lands f name dying (ApplyPointers op left right ∷ rest) new h = goto_lands f name dying rest new h
  goto_lands f name dying (Decide is_and e ∷ rest) new h = goto_lands f name dying rest new h
  goto_lands f name dying (Settle ∷ rest) new h = goto_lands f name dying rest new h
  goto_lands f name dying (Pick b c ∷ rest) new h = goto_lands f name dying rest new h
  goto_lands f name dying (Again ∷ rest) new h = goto_lands f name dying rest new h
  goto_lands f name dying (Tuck ∷ rest) new h = goto_lands f name dying rest new h
  goto_lands f name dying (Increase up t ∷ rest) new h = goto_lands f name dying rest new h
  goto_lands f name dying (Drop ∷ rest) new h = goto_lands f name dying rest new h
  goto_lands f name dying (Enter site t k ∷ rest) new h = goto_lands f name dying rest new h
  goto_lands f name dying (Put type ∷ rest) new h = goto_lands f name dying rest new h
  goto_lands f name dying (Paste base image ∷ rest) new h = goto_lands f name dying rest new h
  goto_lands f name dying (Finish id ∷ rest) new h = goto_lands f name dying rest new h
  goto_lands f name dying (Switched ∷ rest) new h = goto_lands f name dying rest new h

  -- ---- `break` and `continue`

  pub break_lands : (f : ℕ) (dying : List ℕ) (control : List Work) → AreNew p (scopes_of control) dying → Within f control → OnJump f (dying ++ scopes_of control) (jump_behind dying control)
  break_lands f dying [] new h = tt
  break_lands f dying (Frame g site ∷ rest) new h = tt
  break_lands f dying (Close bases stmts ∷ rest) new h =
      subst (λ all. OnJump f all (jump_behind (dying ++ bases) rest)) (append_assoc dying bases (scopes_of rest))
      (break_lands f (dying ++ bases) rest (more_new p owner (scopes_of rest) bases dying h.0.0 new) h.2)
  break_lands f dying (Body stmts ∷ rest) new h = break_lands f dying rest new h.1
  break_lands f dying (Choose id s t ∷ rest) new h = break_lands f dying rest new h.2
  break_lands f dying (Do s ∷ rest) new h = break_lands f dying rest new h.1
  break_lands f dying (Loop id e s ∷ rest) new h = record { new = new; stands = h.1; same = refl }
  break_lands f dying (Turn id e s ∷ rest) new h = break_lands f dying rest new h.1
  break_lands f dying (ForHead w s ∷ rest) new h = break_lands f dying rest new h.1
  break_lands f dying (ForNext w s ∷ rest) new h = record { new = new; stands = h.1; same = refl }
  break_lands f dying (ForTurn w s ∷ rest) new h = break_lands f dying rest new h.1
  break_lands f dying (DoTest w s ∷ rest) new h = record { new = new; stands = h.1; same = refl }
  break_lands f dying (DoTurn w s ∷ rest) new h = break_lands f dying rest new h.1
  break_lands f dying (Select id s ∷ rest) new h = break_lands f dying rest new h.1
  break_lands f dying (Evaluate e ∷ rest) new h = break_lands f dying rest new h
  break_lands f dying (Locate q ∷ rest) new h = break_lands f dying rest new h
  break_lands f dying (Fetch type ∷ rest) new h = break_lands f dying rest new h
  break_lands f dying (Store type ∷ rest) new h = break_lands f dying rest new h
  break_lands f dying (Apply op kind ∷ rest) new h = break_lands f dying rest new h
  break_lands f dying (Discard id ∷ rest) new h = break_lands f dying rest new h
  break_lands f dying (Deliver id ∷ rest) new h = break_lands f dying rest new h
  break_lands f dying (Brace id result ∷ rest) new h = break_lands f dying rest new h
  break_lands f dying (Use ∷ rest) new h = break_lands f dying rest new h
  break_lands f dying (AsPlace ∷ rest) new h = break_lands f dying rest new h
  break_lands f dying (Reach c m ∷ rest) new h = break_lands f dying rest new h
  break_lands f dying (Index t k end ∷ rest) new h = break_lands f dying rest new h
  break_lands f dying (IndexedBy t k end ∷ rest) new h = break_lands f dying rest new h
  break_lands f dying (Sample type ∷ rest) new h = break_lands f dying rest new h
  break_lands f dying (FetchCells t ∷ rest) new h = break_lands f dying rest new h
  break_lands f dying (StoreCells named t ∷ rest) new h = break_lands f dying rest new h
  break_lands f dying (CopyCells named t ∷ rest) new h = break_lands f dying rest new h
  break_lands f dying (ApplyOne op kind ∷ rest) new h = break_lands f dying rest new h
  break_lands f dying (Change t ∷ rest) new h = break_lands f dying rest new h
  break_lands f dying (ApplyPointers op left right ∷ rest) new h = break_lands f dying rest new h
  break_lands f dying (Decide is_and e ∷ rest) new h = break_lands f dying rest new h
  break_lands f dying (Settle ∷ rest) new h = break_lands f dying rest new h
  break_lands f dying (Pick b c ∷ rest) new h = break_lands f dying rest new h
  break_lands f dying (Again ∷ rest) new h = break_lands f dying rest new h
  break_lands f dying (Tuck ∷ rest) new h = break_lands f dying rest new h
  break_lands f dying (Increase up t ∷ rest) new h = break_lands f dying rest new h
  break_lands f dying (Drop ∷ rest) new h = break_lands f dying rest new h
  break_lands f dying (Enter site t k ∷ rest) new h = break_lands f dying rest new h
  break_lands f dying (Put type ∷ rest) new h = break_lands f dying rest new h
  break_lands f dying (Paste base image ∷ rest) new h = break_lands f dying rest new h
  break_lands f dying (Finish id ∷ rest) new h = break_lands f dying rest new h
  break_lands f dying (Switched ∷ rest) new h = record { new = new; stands = h; same = refl }

  pub continue_lands : (f : ℕ) (dying : List ℕ) (control : List Work) → AreNew p (scopes_of control) dying → Within f control → OnJump f (dying ++ scopes_of control) (jump_on dying control)
  continue_lands f dying [] new h = tt
  continue_lands f dying (Frame g site ∷ rest) new h = tt
  continue_lands f dying (Close bases stmts ∷ rest) new h =
      subst (λ all. OnJump f all (jump_on (dying ++ bases) rest)) (append_assoc dying bases (scopes_of rest))
      (continue_lands f (dying ++ bases) rest (more_new p owner (scopes_of rest) bases dying h.0.0 new) h.2)
  continue_lands f dying (Body stmts ∷ rest) new h = continue_lands f dying rest new h.1
  continue_lands f dying (Choose id s t ∷ rest) new h = continue_lands f dying rest new h.2
  continue_lands f dying (Do s ∷ rest) new h = continue_lands f dying rest new h.1
  continue_lands f dying (Loop id e s ∷ rest) new h = record { new = new; stands = h; same = refl }
  continue_lands f dying (Turn id e s ∷ rest) new h = continue_lands f dying rest new h.1
  continue_lands f dying (ForHead w s ∷ rest) new h = continue_lands f dying rest new h.1
  continue_lands f dying (ForNext w s ∷ rest) new h = record { new = new; stands = h; same = refl }
  continue_lands f dying (ForTurn w s ∷ rest) new h = continue_lands f dying rest new h.1
  continue_lands f dying (DoTest w s ∷ rest) new h = record { new = new; stands = h; same = refl }
  continue_lands f dying (DoTurn w s ∷ rest) new h = continue_lands f dying rest new h.1
  continue_lands f dying (Select id s ∷ rest) new h = continue_lands f dying rest new h.1
  continue_lands f dying (Evaluate e ∷ rest) new h = continue_lands f dying rest new h
  continue_lands f dying (Locate q ∷ rest) new h = continue_lands f dying rest new h
  continue_lands f dying (Fetch type ∷ rest) new h = continue_lands f dying rest new h
  continue_lands f dying (Store type ∷ rest) new h = continue_lands f dying rest new h
  continue_lands f dying (Apply op kind ∷ rest) new h = continue_lands f dying rest new h
  continue_lands f dying (Discard id ∷ rest) new h = continue_lands f dying rest new h
  continue_lands f dying (Deliver id ∷ rest) new h = continue_lands f dying rest new h
  continue_lands f dying (Brace id result ∷ rest) new h = continue_lands f dying rest new h
  continue_lands f dying (Use ∷ rest) new h = continue_lands f dying rest new h
  continue_lands f dying (AsPlace ∷ rest) new h = continue_lands f dying rest new h
  continue_lands f dying (Reach c m ∷ rest) new h = continue_lands f dying rest new h
  continue_lands f dying (Index t k end ∷ rest) new h = continue_lands f dying rest new h
  continue_lands f dying (IndexedBy t k end ∷ rest) new h = continue_lands f dying rest new h
  continue_lands f dying (Sample type ∷ rest) new h = continue_lands f dying rest new h
  continue_lands f dying (FetchCells t ∷ rest) new h = continue_lands f dying rest new h
  continue_lands f dying (StoreCells named t ∷ rest) new h = continue_lands f dying rest new h
  continue_lands f dying (CopyCells named t ∷ rest) new h = continue_lands f dying rest new h
  continue_lands f dying (ApplyOne op kind ∷ rest) new h = continue_lands f dying rest new h
  continue_lands f dying (Change t ∷ rest) new h = continue_lands f dying rest new h
  continue_lands f dying (ApplyPointers op left right ∷ rest) new h = continue_lands f dying rest new h
  continue_lands f dying (Decide is_and e ∷ rest) new h = continue_lands f dying rest new h
  continue_lands f dying (Settle ∷ rest) new h = continue_lands f dying rest new h
  continue_lands f dying (Pick b c ∷ rest) new h = continue_lands f dying rest new h
  continue_lands f dying (Again ∷ rest) new h = continue_lands f dying rest new h
  continue_lands f dying (Tuck ∷ rest) new h = continue_lands f dying rest new h
  continue_lands f dying (Increase up t ∷ rest) new h = continue_lands f dying rest new h
  continue_lands f dying (Drop ∷ rest) new h = continue_lands f dying rest new h
  continue_lands f dying (Enter site t k ∷ rest) new h = continue_lands f dying rest new h
  continue_lands f dying (Put type ∷ rest) new h = continue_lands f dying rest new h
  continue_lands f dying (Paste base image ∷ rest) new h = continue_lands f dying rest new h
  continue_lands f dying (Finish id ∷ rest) new h = continue_lands f dying rest new h
  continue_lands f dying (Switched ∷ rest) new h = continue_lands f dying rest new h

  -- ---- `switch`

  case_lands : (f : ℕ) (value : Option ℤ) (s : Stmt) (rest : List Work) → Stand f (scopes_of rest) s → Within f rest → Lands f (scopes_of rest) (at_case value s rest)
  case_lands f value (Expression id e) rest h k = tt
  case_lands f value (Return id e) rest h k = tt
  case_lands f value Nothing rest h k = tt
  case_lands f value (Empty id) rest h k = tt
  case_lands f value (ReturnNothing id) rest h k = tt
  case_lands f value (Goto id label) rest h k = tt
  case_lands f value (Break id) rest h k = tt
  case_lands f value (Continue id) rest h k = tt
  case_lands f value (Initialise id base cleared items) rest h k = tt
  case_lands f value (Assert id predicate) rest h k = tt
  case_lands f value (If id e s t) rest h k = tt
  case_lands f value (While id e s) rest h k = tt
  case_lands f value (Block bases stmts) rest h k = tt
  case_lands f value (DoWhile w s) rest h k = tt
  case_lands f value (For w s) rest h k = tt
  case_lands f value (Switch id e s) rest h k = tt
  case_lands f value (Label name s) rest h k = case_lands f value s rest h k
  case_lands f value (Case v s) rest h k = by_value (case_lands f value s rest h k) (same_case value v)
    where
      by_value : Lands f (scopes_of rest) (at_case value s rest) → (t : Bool) → Lands f (scopes_of rest) (cond t (Some (Do s ∷ rest)) (at_case value s rest))
      by_value inside true = ((h, k), refl)
      by_value inside false = inside

  cases_land : (f : ℕ) (value : Option ℤ) (stmts : Stmts) (rest : List Work) → AllOf f (scopes_of rest) stmts → Within f rest → Lands f (scopes_of rest) (at_case_in value stmts rest)
  cases_land f value Done rest h k = tt
  cases_land f value (Next s more) rest h k =
      first_lands f (scopes_of rest) (at_case value s (queued more rest)) (at_case_in value more rest)
      (lands_before f more rest (at_case value s (queued more rest))
      (case_lands f value s (queued more rest) (before_others f s more rest h.0) (queued_in p owner f more rest h.1 k)))
      (cases_land f value more rest h.1 k)

  -- what a `switch` enters stands in the scopes around it and the block's
  abbrev pub OnEntry : ℕ → List ℕ → Option Entry → Type 0
  OnEntry f scopes None = Unit {0}
  OnEntry f scopes (Some e) = Within f e.control × (scopes_of e.control ≡ e.born ++ scopes)

  entry_lands : (f : ℕ) (bases scopes : List ℕ) (o : Option (List Work)) → Lands f (bases ++ scopes) o → OnEntry f scopes (entry_at bases o)
  entry_lands f bases scopes None h = tt
  entry_lands f bases scopes (Some control) h = h

  pub switch_lands : (f : ℕ) (n : ℤ) (s : Stmt) (rest : List Work) → Stand f (scopes_of rest) s → Within f rest → OnEntry f (scopes_of rest) (selected n s rest)
  switch_lands f n (Block bases stmts) rest h k =
      let inner : List Work = Close bases stmts ∷ Switched ∷ rest in
      let within : Within f inner = (h.0, h.1, k) in
      entry_lands f bases (scopes_of rest) (first_some (at_case_in (Some n) stmts inner) (at_case_in None stmts inner))
      (first_lands f (bases ++ scopes_of rest) (at_case_in (Some n) stmts inner) (at_case_in None stmts inner)
      (cases_land f (Some n) stmts inner h.1 within) (cases_land f None stmts inner h.1 within))
  switch_lands f n (Label name s) rest h k = switch_lands f n s rest h k
  switch_lands f n (Expression id e) rest h k = tt
  switch_lands f n (Return id e) rest h k = tt
  switch_lands f n Nothing rest h k = tt
  switch_lands f n (Empty id) rest h k = tt
  switch_lands f n (ReturnNothing id) rest h k = tt
  switch_lands f n (Goto id label) rest h k = tt
  switch_lands f n (Break id) rest h k = tt
  switch_lands f n (Continue id) rest h k = tt
  switch_lands f n (Initialise id base cleared items) rest h k = tt
  switch_lands f n (Assert id predicate) rest h k = tt
  switch_lands f n (If id e s t) rest h k = tt
  switch_lands f n (While id e s) rest h k = tt
  switch_lands f n (DoWhile w s) rest h k = tt
  switch_lands f n (For w s) rest h k = tt
  switch_lands f n (Switch id e s) rest h k = tt
  switch_lands f n (Case value s) rest h k = tt
