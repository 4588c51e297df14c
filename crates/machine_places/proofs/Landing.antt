-- Jumps stay in the function: they lead to work of it.
use Rattle.std.proofs.Common.{ℕ, Bool, true, false, cond, List, [], ◌∷◌, ◌++◌, Option, None, Some, ℤ}
use Rattle.std.specs.Prelude.{bytes_eq}
use Rattle.c_program.specs.Syntax.{Stmt, Expression, Return, If, While, Block, Nothing, Empty, ReturnNothing, DoWhile, For, Switch, Case, Label, Goto, Break, Continue, Initialise, Assert, Stmts, Done, Next, Function, Program}
use Rattle.c_memory.specs.Layouts.{Layout}
use Rattle.c_machine.specs.Machine.{Held, Work, Do, Evaluate, Locate, Fetch, Store, Apply, Discard, Choose, Loop, Turn, Deliver, Body, Brace, Close, Frame, Use, AsPlace, Reach, Index, IndexedBy, Sample, FetchCells, StoreCells, CopyCells, ApplyOne, Change, ApplyPointers, Decide, Settle, Pick, Again, Tuck, Increase, Drop, Enter, Put, Paste, Finish, ForHead, ForNext, ForTurn, DoTest, DoTurn, Select, Switched, queued}
use Rattle.c_machine.specs.Jumps.{Jump, first_some, at_label, at_label_in, jump_or, jump_to, jump_behind, jump_on, same_case, at_case, at_case_in, Entry, entry_at, selected}
use Rattle.machine_places.proofs.Segments.{Of, AllOf, At as AtAny, Behind as BehindAny, Framed as FramedAny, queued_at}

module _ (p : Program) (l : Layout) (held : List Held) where
  abbrev At : Function → List Work → Type 0
  At f control = AtAny p l f control held

  abbrev Behind : Function → List Work → Type 0
  Behind f control = BehindAny p l f control held

  abbrev Framed : Function → List Work → Type 0
  Framed f control = FramedAny p l f control held

  -- an option has work of the function
  abbrev Lands : Function → Option (List Work) → Type 0
  Lands f None = Unit {0}
  Lands f (Some control) = At f control

  first_lands : (f : Function) (a b : Option (List Work)) → Lands f a → Lands f b → Lands f (first_some a b)
  first_lands f None b h k = k
  first_lands f (Some a) b h k = h

  -- ---- labels

  label_lands : (f : Function) (name : List ℕ) (s : Stmt) (rest : List Work) → Of f s → At f rest → Lands f (at_label name s rest)
  label_lands f name (Expression id e) rest h k = tt
  label_lands f name (Return id e) rest h k = tt
  label_lands f name Nothing rest h k = tt
  label_lands f name (Empty id) rest h k = tt
  label_lands f name (ReturnNothing id) rest h k = tt
  label_lands f name (Goto id label) rest h k = tt
  label_lands f name (Break id) rest h k = tt
  label_lands f name (Continue id) rest h k = tt
  label_lands f name (Initialise id base cleared items) rest h k = tt
  label_lands f name (Assert id predicate) rest h k = tt
  label_lands f name (Block bases stmts) rest h k = tt
  label_lands f name (Label label s) rest h k = by_name (label_lands f name s rest h k) (bytes_eq label name)
    where
      by_name : Lands f (at_label name s rest) → (t : Bool) → Lands f (cond t (Some (Do s ∷ rest)) (at_label name s rest))
      by_name inside true = (h, k)
      by_name inside false = inside
  label_lands f name (If id e s t) rest h k =
      first_lands f (at_label name s rest) (at_label name t rest) (label_lands f name s rest h.2 k) (label_lands f name t rest h.3 k)
  label_lands f name (While id e s) rest h k = label_lands f name s (Loop id e s ∷ rest) h.2 (h, k)
  label_lands f name (DoWhile w s) rest h k = label_lands f name s (DoTest w s ∷ rest) h.1 (h, k)
  label_lands f name (For w s) rest h k = label_lands f name s (ForNext w s ∷ rest) h.1 (h, k)
  label_lands f name (Switch id e s) rest h k = label_lands f name s (Switched ∷ rest) h.2 k
  label_lands f name (Case value s) rest h k = label_lands f name s rest h k

  labels_land : (f : Function) (name : List ℕ) (stmts : Stmts) (rest : List Work) → AllOf f stmts → At f rest → Lands f (at_label_in name stmts rest)
  labels_land f name Done rest h k = tt
  labels_land f name (Next s more) rest h k =
      first_lands f (at_label name s (queued more rest)) (at_label_in name more rest)
      (label_lands f name s (queued more rest) h.0 (queued_at p l f more rest held h.1 k)) (labels_land f name more rest h.1 k)

  -- a jump leads to work of the function
  abbrev pub OnJump : Function → Option Jump → Type 0
  OnJump f None = Unit {0}
  OnJump f (Some j) = At f j.control

  jump_or_lands : (f : Function) (dying : List ℕ) (control : Option (List Work)) (outside : Option Jump) → Lands f control → OnJump f outside → OnJump f (jump_or dying control outside)
  jump_or_lands f dying None outside h k = k
  jump_or_lands f dying (Some control) outside h k = h

  -- ---- `goto`

  framed_goto : (f : Function) (name : List ℕ) (dying : List ℕ) (control : List Work) → Framed f control → OnJump f (jump_to name dying control)
  framed_goto f name dying [] h = absurd h
  framed_goto f name dying (Frame g site ∷ rest) h = tt
  framed_goto f name dying (Do s ∷ rest) h = absurd h
  framed_goto f name dying (Loop id e s ∷ rest) h = absurd h
  framed_goto f name dying (Body stmts ∷ rest) h = absurd h
  framed_goto f name dying (Close bases stmts ∷ rest) h = absurd h
  framed_goto f name dying (ForHead w s ∷ rest) h = absurd h
  framed_goto f name dying (ForNext w s ∷ rest) h = absurd h
  framed_goto f name dying (DoTest w s ∷ rest) h = absurd h
  framed_goto f name dying (Switched ∷ rest) h = absurd h
  framed_goto f name dying (Brace id result ∷ rest) h = absurd h
  framed_goto f name dying (Fetch type ∷ rest) h = absurd h
  framed_goto f name dying (Use ∷ rest) h = absurd h
  framed_goto f name dying (AsPlace ∷ rest) h = absurd h
  framed_goto f name dying (Reach c m ∷ rest) h = absurd h
  framed_goto f name dying (Sample type ∷ rest) h = absurd h
  framed_goto f name dying (FetchCells t ∷ rest) h = absurd h
  framed_goto f name dying (ApplyOne op kind ∷ rest) h = absurd h
  framed_goto f name dying (Change t ∷ rest) h = absurd h
  framed_goto f name dying (Settle ∷ rest) h = absurd h
  framed_goto f name dying (Increase up t ∷ rest) h = absurd h
  framed_goto f name dying (Store type ∷ rest) h = absurd h
  framed_goto f name dying (Apply op kind ∷ rest) h = absurd h
  framed_goto f name dying (Index t k end ∷ rest) h = absurd h
  framed_goto f name dying (IndexedBy t k end ∷ rest) h = absurd h
  framed_goto f name dying (StoreCells named t ∷ rest) h = absurd h
  framed_goto f name dying (CopyCells named t ∷ rest) h = absurd h
  framed_goto f name dying (ApplyPointers op left right ∷ rest) h = absurd h
  framed_goto f name dying (Put type ∷ rest) h = absurd h
  framed_goto f name dying (Evaluate e ∷ rest) h = absurd h
  framed_goto f name dying (Locate q ∷ rest) h = absurd h
  framed_goto f name dying (Again ∷ rest) h = absurd h
  framed_goto f name dying (Tuck ∷ rest) h = absurd h
  framed_goto f name dying (Drop ∷ rest) h = absurd h
  framed_goto f name dying (Paste base image ∷ rest) h = absurd h
  framed_goto f name dying (Decide is_and e ∷ rest) h = absurd h
  framed_goto f name dying (Pick b c ∷ rest) h = absurd h
  framed_goto f name dying (Enter site t k ∷ rest) h = absurd h
  framed_goto f name dying (Discard id ∷ rest) h = absurd h
  framed_goto f name dying (Choose id s t ∷ rest) h = absurd h
  framed_goto f name dying (Turn id e s ∷ rest) h = absurd h
  framed_goto f name dying (Deliver id ∷ rest) h = absurd h
  framed_goto f name dying (Finish id ∷ rest) h = absurd h
  framed_goto f name dying (ForTurn w s ∷ rest) h = absurd h
  framed_goto f name dying (DoTurn w s ∷ rest) h = absurd h
  framed_goto f name dying (Select id s ∷ rest) h = absurd h

  behind_goto : (f : Function) (name : List ℕ) (dying : List ℕ) (control : List Work) → Behind f control → OnJump f (jump_to name dying control)
  behind_goto f name dying [] h = absurd h
  behind_goto f name dying (Frame g site ∷ rest) h = absurd h
  behind_goto f name dying (Do s ∷ rest) h = absurd h
  behind_goto f name dying (Loop id e s ∷ rest) h = absurd h
  behind_goto f name dying (Body stmts ∷ rest) h = absurd h
  behind_goto f name dying (Close bases stmts ∷ rest) h = rw h.0 (framed_goto f name (dying ++ bases) rest h.1)
  behind_goto f name dying (ForHead w s ∷ rest) h = absurd h
  behind_goto f name dying (ForNext w s ∷ rest) h = absurd h
  behind_goto f name dying (DoTest w s ∷ rest) h = absurd h
  behind_goto f name dying (Switched ∷ rest) h = absurd h
  behind_goto f name dying (Brace id result ∷ rest) h = absurd h
  behind_goto f name dying (Fetch type ∷ rest) h = absurd h
  behind_goto f name dying (Use ∷ rest) h = absurd h
  behind_goto f name dying (AsPlace ∷ rest) h = absurd h
  behind_goto f name dying (Reach c m ∷ rest) h = absurd h
  behind_goto f name dying (Sample type ∷ rest) h = absurd h
  behind_goto f name dying (FetchCells t ∷ rest) h = absurd h
  behind_goto f name dying (ApplyOne op kind ∷ rest) h = absurd h
  behind_goto f name dying (Change t ∷ rest) h = absurd h
  behind_goto f name dying (Settle ∷ rest) h = absurd h
  behind_goto f name dying (Increase up t ∷ rest) h = absurd h
  behind_goto f name dying (Store type ∷ rest) h = absurd h
  behind_goto f name dying (Apply op kind ∷ rest) h = absurd h
  behind_goto f name dying (Index t k end ∷ rest) h = absurd h
  behind_goto f name dying (IndexedBy t k end ∷ rest) h = absurd h
  behind_goto f name dying (StoreCells named t ∷ rest) h = absurd h
  behind_goto f name dying (CopyCells named t ∷ rest) h = absurd h
  behind_goto f name dying (ApplyPointers op left right ∷ rest) h = absurd h
  behind_goto f name dying (Put type ∷ rest) h = absurd h
  behind_goto f name dying (Evaluate e ∷ rest) h = absurd h
  behind_goto f name dying (Locate q ∷ rest) h = absurd h
  behind_goto f name dying (Again ∷ rest) h = absurd h
  behind_goto f name dying (Tuck ∷ rest) h = absurd h
  behind_goto f name dying (Drop ∷ rest) h = absurd h
  behind_goto f name dying (Paste base image ∷ rest) h = absurd h
  behind_goto f name dying (Decide is_and e ∷ rest) h = absurd h
  behind_goto f name dying (Pick b c ∷ rest) h = absurd h
  behind_goto f name dying (Enter site t k ∷ rest) h = absurd h
  behind_goto f name dying (Discard id ∷ rest) h = absurd h
  behind_goto f name dying (Choose id s t ∷ rest) h = absurd h
  behind_goto f name dying (Turn id e s ∷ rest) h = absurd h
  behind_goto f name dying (Deliver id ∷ rest) h = absurd h
  behind_goto f name dying (Finish id ∷ rest) h = absurd h
  behind_goto f name dying (ForTurn w s ∷ rest) h = absurd h
  behind_goto f name dying (DoTurn w s ∷ rest) h = absurd h
  behind_goto f name dying (Select id s ∷ rest) h = absurd h

  pub goto_lands : (f : Function) (name : List ℕ) (dying : List ℕ) (control : List Work) → At f control → OnJump f (jump_to name dying control)
  goto_lands f name dying [] h = absurd h
  goto_lands f name dying (Frame g site ∷ rest) h = absurd h
  goto_lands f name dying (Do s ∷ rest) h = goto_lands f name dying rest h.1
  goto_lands f name dying (Loop id e s ∷ rest) h = goto_lands f name dying rest h.1
  goto_lands f name dying (Body stmts ∷ rest) h = jump_or_lands f dying (at_label_in name stmts (Body stmts ∷ rest)) (jump_to name dying rest) (labels_land f name stmts (Body stmts ∷ rest) h.0 h) (goto_lands f name dying rest h.1)
  goto_lands f name dying (Close bases stmts ∷ rest) h = jump_or_lands f dying (at_label_in name stmts (Close bases stmts ∷ rest)) (jump_to name (dying ++ bases) rest) (labels_land f name stmts (Close bases stmts ∷ rest) h.0 h) (goto_lands f name (dying ++ bases) rest h.1)
  goto_lands f name dying (ForHead w s ∷ rest) h = goto_lands f name dying rest h.1
  goto_lands f name dying (ForNext w s ∷ rest) h = goto_lands f name dying rest h.1
  goto_lands f name dying (DoTest w s ∷ rest) h = goto_lands f name dying rest h.1
  goto_lands f name dying (Switched ∷ rest) h = goto_lands f name dying rest h
  goto_lands f name dying (Brace id result ∷ rest) h = behind_goto f name dying rest h.1
  goto_lands f name dying (Fetch type ∷ rest) h = absurd h
  goto_lands f name dying (Use ∷ rest) h = absurd h
  goto_lands f name dying (AsPlace ∷ rest) h = absurd h
  goto_lands f name dying (Reach c m ∷ rest) h = absurd h
  goto_lands f name dying (Sample type ∷ rest) h = absurd h
  goto_lands f name dying (FetchCells t ∷ rest) h = absurd h
  goto_lands f name dying (ApplyOne op kind ∷ rest) h = absurd h
  goto_lands f name dying (Change t ∷ rest) h = absurd h
  goto_lands f name dying (Settle ∷ rest) h = absurd h
  goto_lands f name dying (Increase up t ∷ rest) h = absurd h
  goto_lands f name dying (Store type ∷ rest) h = absurd h
  goto_lands f name dying (Apply op kind ∷ rest) h = absurd h
  goto_lands f name dying (Index t k end ∷ rest) h = absurd h
  goto_lands f name dying (IndexedBy t k end ∷ rest) h = absurd h
  goto_lands f name dying (StoreCells named t ∷ rest) h = absurd h
  goto_lands f name dying (CopyCells named t ∷ rest) h = absurd h
  goto_lands f name dying (ApplyPointers op left right ∷ rest) h = absurd h
  goto_lands f name dying (Put type ∷ rest) h = absurd h
  goto_lands f name dying (Evaluate e ∷ rest) h = absurd h
  goto_lands f name dying (Locate q ∷ rest) h = absurd h
  goto_lands f name dying (Again ∷ rest) h = absurd h
  goto_lands f name dying (Tuck ∷ rest) h = absurd h
  goto_lands f name dying (Drop ∷ rest) h = absurd h
  goto_lands f name dying (Paste base image ∷ rest) h = absurd h
  goto_lands f name dying (Decide is_and e ∷ rest) h = absurd h
  goto_lands f name dying (Pick b c ∷ rest) h = absurd h
  goto_lands f name dying (Enter site t k ∷ rest) h = absurd h
  goto_lands f name dying (Discard id ∷ rest) h = absurd h
  goto_lands f name dying (Choose id s t ∷ rest) h = absurd h
  goto_lands f name dying (Turn id e s ∷ rest) h = absurd h
  goto_lands f name dying (Deliver id ∷ rest) h = absurd h
  goto_lands f name dying (Finish id ∷ rest) h = absurd h
  goto_lands f name dying (ForTurn w s ∷ rest) h = absurd h
  goto_lands f name dying (DoTurn w s ∷ rest) h = absurd h
  goto_lands f name dying (Select id s ∷ rest) h = absurd h

  -- ---- `break`

  framed_break : (f : Function) (dying : List ℕ) (control : List Work) → Framed f control → OnJump f (jump_behind dying control)
  framed_break f dying [] h = absurd h
  framed_break f dying (Frame g site ∷ rest) h = tt
  framed_break f dying (Do s ∷ rest) h = absurd h
  framed_break f dying (Loop id e s ∷ rest) h = absurd h
  framed_break f dying (Body stmts ∷ rest) h = absurd h
  framed_break f dying (Close bases stmts ∷ rest) h = absurd h
  framed_break f dying (ForHead w s ∷ rest) h = absurd h
  framed_break f dying (ForNext w s ∷ rest) h = absurd h
  framed_break f dying (DoTest w s ∷ rest) h = absurd h
  framed_break f dying (Switched ∷ rest) h = absurd h
  framed_break f dying (Brace id result ∷ rest) h = absurd h
  framed_break f dying (Fetch type ∷ rest) h = absurd h
  framed_break f dying (Use ∷ rest) h = absurd h
  framed_break f dying (AsPlace ∷ rest) h = absurd h
  framed_break f dying (Reach c m ∷ rest) h = absurd h
  framed_break f dying (Sample type ∷ rest) h = absurd h
  framed_break f dying (FetchCells t ∷ rest) h = absurd h
  framed_break f dying (ApplyOne op kind ∷ rest) h = absurd h
  framed_break f dying (Change t ∷ rest) h = absurd h
  framed_break f dying (Settle ∷ rest) h = absurd h
  framed_break f dying (Increase up t ∷ rest) h = absurd h
  framed_break f dying (Store type ∷ rest) h = absurd h
  framed_break f dying (Apply op kind ∷ rest) h = absurd h
  framed_break f dying (Index t k end ∷ rest) h = absurd h
  framed_break f dying (IndexedBy t k end ∷ rest) h = absurd h
  framed_break f dying (StoreCells named t ∷ rest) h = absurd h
  framed_break f dying (CopyCells named t ∷ rest) h = absurd h
  framed_break f dying (ApplyPointers op left right ∷ rest) h = absurd h
  framed_break f dying (Put type ∷ rest) h = absurd h
  framed_break f dying (Evaluate e ∷ rest) h = absurd h
  framed_break f dying (Locate q ∷ rest) h = absurd h
  framed_break f dying (Again ∷ rest) h = absurd h
  framed_break f dying (Tuck ∷ rest) h = absurd h
  framed_break f dying (Drop ∷ rest) h = absurd h
  framed_break f dying (Paste base image ∷ rest) h = absurd h
  framed_break f dying (Decide is_and e ∷ rest) h = absurd h
  framed_break f dying (Pick b c ∷ rest) h = absurd h
  framed_break f dying (Enter site t k ∷ rest) h = absurd h
  framed_break f dying (Discard id ∷ rest) h = absurd h
  framed_break f dying (Choose id s t ∷ rest) h = absurd h
  framed_break f dying (Turn id e s ∷ rest) h = absurd h
  framed_break f dying (Deliver id ∷ rest) h = absurd h
  framed_break f dying (Finish id ∷ rest) h = absurd h
  framed_break f dying (ForTurn w s ∷ rest) h = absurd h
  framed_break f dying (DoTurn w s ∷ rest) h = absurd h
  framed_break f dying (Select id s ∷ rest) h = absurd h

  behind_break : (f : Function) (dying : List ℕ) (control : List Work) → Behind f control → OnJump f (jump_behind dying control)
  behind_break f dying [] h = absurd h
  behind_break f dying (Frame g site ∷ rest) h = absurd h
  behind_break f dying (Do s ∷ rest) h = absurd h
  behind_break f dying (Loop id e s ∷ rest) h = absurd h
  behind_break f dying (Body stmts ∷ rest) h = absurd h
  behind_break f dying (Close bases stmts ∷ rest) h = framed_break f (dying ++ bases) rest h.1
  behind_break f dying (ForHead w s ∷ rest) h = absurd h
  behind_break f dying (ForNext w s ∷ rest) h = absurd h
  behind_break f dying (DoTest w s ∷ rest) h = absurd h
  behind_break f dying (Switched ∷ rest) h = absurd h
  behind_break f dying (Brace id result ∷ rest) h = absurd h
  behind_break f dying (Fetch type ∷ rest) h = absurd h
  behind_break f dying (Use ∷ rest) h = absurd h
  behind_break f dying (AsPlace ∷ rest) h = absurd h
  behind_break f dying (Reach c m ∷ rest) h = absurd h
  behind_break f dying (Sample type ∷ rest) h = absurd h
  behind_break f dying (FetchCells t ∷ rest) h = absurd h
  behind_break f dying (ApplyOne op kind ∷ rest) h = absurd h
  behind_break f dying (Change t ∷ rest) h = absurd h
  behind_break f dying (Settle ∷ rest) h = absurd h
  behind_break f dying (Increase up t ∷ rest) h = absurd h
  behind_break f dying (Store type ∷ rest) h = absurd h
  behind_break f dying (Apply op kind ∷ rest) h = absurd h
  behind_break f dying (Index t k end ∷ rest) h = absurd h
  behind_break f dying (IndexedBy t k end ∷ rest) h = absurd h
  behind_break f dying (StoreCells named t ∷ rest) h = absurd h
  behind_break f dying (CopyCells named t ∷ rest) h = absurd h
  behind_break f dying (ApplyPointers op left right ∷ rest) h = absurd h
  behind_break f dying (Put type ∷ rest) h = absurd h
  behind_break f dying (Evaluate e ∷ rest) h = absurd h
  behind_break f dying (Locate q ∷ rest) h = absurd h
  behind_break f dying (Again ∷ rest) h = absurd h
  behind_break f dying (Tuck ∷ rest) h = absurd h
  behind_break f dying (Drop ∷ rest) h = absurd h
  behind_break f dying (Paste base image ∷ rest) h = absurd h
  behind_break f dying (Decide is_and e ∷ rest) h = absurd h
  behind_break f dying (Pick b c ∷ rest) h = absurd h
  behind_break f dying (Enter site t k ∷ rest) h = absurd h
  behind_break f dying (Discard id ∷ rest) h = absurd h
  behind_break f dying (Choose id s t ∷ rest) h = absurd h
  behind_break f dying (Turn id e s ∷ rest) h = absurd h
  behind_break f dying (Deliver id ∷ rest) h = absurd h
  behind_break f dying (Finish id ∷ rest) h = absurd h
  behind_break f dying (ForTurn w s ∷ rest) h = absurd h
  behind_break f dying (DoTurn w s ∷ rest) h = absurd h
  behind_break f dying (Select id s ∷ rest) h = absurd h

  pub break_lands : (f : Function) (dying : List ℕ) (control : List Work) → At f control → OnJump f (jump_behind dying control)
  break_lands f dying [] h = absurd h
  break_lands f dying (Frame g site ∷ rest) h = absurd h
  break_lands f dying (Do s ∷ rest) h = break_lands f dying rest h.1
  break_lands f dying (Loop id e s ∷ rest) h = h.1
  break_lands f dying (Body stmts ∷ rest) h = break_lands f dying rest h.1
  break_lands f dying (Close bases stmts ∷ rest) h = break_lands f (dying ++ bases) rest h.1
  break_lands f dying (ForHead w s ∷ rest) h = break_lands f dying rest h.1
  break_lands f dying (ForNext w s ∷ rest) h = h.1
  break_lands f dying (DoTest w s ∷ rest) h = h.1
  break_lands f dying (Switched ∷ rest) h = h
  break_lands f dying (Brace id result ∷ rest) h = behind_break f dying rest h.1
  break_lands f dying (Fetch type ∷ rest) h = absurd h
  break_lands f dying (Use ∷ rest) h = absurd h
  break_lands f dying (AsPlace ∷ rest) h = absurd h
  break_lands f dying (Reach c m ∷ rest) h = absurd h
  break_lands f dying (Sample type ∷ rest) h = absurd h
  break_lands f dying (FetchCells t ∷ rest) h = absurd h
  break_lands f dying (ApplyOne op kind ∷ rest) h = absurd h
  break_lands f dying (Change t ∷ rest) h = absurd h
  break_lands f dying (Settle ∷ rest) h = absurd h
  break_lands f dying (Increase up t ∷ rest) h = absurd h
  break_lands f dying (Store type ∷ rest) h = absurd h
  break_lands f dying (Apply op kind ∷ rest) h = absurd h
  break_lands f dying (Index t k end ∷ rest) h = absurd h
  break_lands f dying (IndexedBy t k end ∷ rest) h = absurd h
  break_lands f dying (StoreCells named t ∷ rest) h = absurd h
  break_lands f dying (CopyCells named t ∷ rest) h = absurd h
  break_lands f dying (ApplyPointers op left right ∷ rest) h = absurd h
  break_lands f dying (Put type ∷ rest) h = absurd h
  break_lands f dying (Evaluate e ∷ rest) h = absurd h
  break_lands f dying (Locate q ∷ rest) h = absurd h
  break_lands f dying (Again ∷ rest) h = absurd h
  break_lands f dying (Tuck ∷ rest) h = absurd h
  break_lands f dying (Drop ∷ rest) h = absurd h
  break_lands f dying (Paste base image ∷ rest) h = absurd h
  break_lands f dying (Decide is_and e ∷ rest) h = absurd h
  break_lands f dying (Pick b c ∷ rest) h = absurd h
  break_lands f dying (Enter site t k ∷ rest) h = absurd h
  break_lands f dying (Discard id ∷ rest) h = absurd h
  break_lands f dying (Choose id s t ∷ rest) h = absurd h
  break_lands f dying (Turn id e s ∷ rest) h = absurd h
  break_lands f dying (Deliver id ∷ rest) h = absurd h
  break_lands f dying (Finish id ∷ rest) h = absurd h
  break_lands f dying (ForTurn w s ∷ rest) h = absurd h
  break_lands f dying (DoTurn w s ∷ rest) h = absurd h
  break_lands f dying (Select id s ∷ rest) h = absurd h

  -- ---- `continue`

  framed_continue : (f : Function) (dying : List ℕ) (control : List Work) → Framed f control → OnJump f (jump_on dying control)
  framed_continue f dying [] h = absurd h
  framed_continue f dying (Frame g site ∷ rest) h = tt
  framed_continue f dying (Do s ∷ rest) h = absurd h
  framed_continue f dying (Loop id e s ∷ rest) h = absurd h
  framed_continue f dying (Body stmts ∷ rest) h = absurd h
  framed_continue f dying (Close bases stmts ∷ rest) h = absurd h
  framed_continue f dying (ForHead w s ∷ rest) h = absurd h
  framed_continue f dying (ForNext w s ∷ rest) h = absurd h
  framed_continue f dying (DoTest w s ∷ rest) h = absurd h
  framed_continue f dying (Switched ∷ rest) h = absurd h
  framed_continue f dying (Brace id result ∷ rest) h = absurd h
  framed_continue f dying (Fetch type ∷ rest) h = absurd h
  framed_continue f dying (Use ∷ rest) h = absurd h
  framed_continue f dying (AsPlace ∷ rest) h = absurd h
  framed_continue f dying (Reach c m ∷ rest) h = absurd h
  framed_continue f dying (Sample type ∷ rest) h = absurd h
  framed_continue f dying (FetchCells t ∷ rest) h = absurd h
  framed_continue f dying (ApplyOne op kind ∷ rest) h = absurd h
  framed_continue f dying (Change t ∷ rest) h = absurd h
  framed_continue f dying (Settle ∷ rest) h = absurd h
  framed_continue f dying (Increase up t ∷ rest) h = absurd h
  framed_continue f dying (Store type ∷ rest) h = absurd h
  framed_continue f dying (Apply op kind ∷ rest) h = absurd h
  framed_continue f dying (Index t k end ∷ rest) h = absurd h
  framed_continue f dying (IndexedBy t k end ∷ rest) h = absurd h
  framed_continue f dying (StoreCells named t ∷ rest) h = absurd h
  framed_continue f dying (CopyCells named t ∷ rest) h = absurd h
  framed_continue f dying (ApplyPointers op left right ∷ rest) h = absurd h
  framed_continue f dying (Put type ∷ rest) h = absurd h
  framed_continue f dying (Evaluate e ∷ rest) h = absurd h
  framed_continue f dying (Locate q ∷ rest) h = absurd h
  framed_continue f dying (Again ∷ rest) h = absurd h
  framed_continue f dying (Tuck ∷ rest) h = absurd h
  framed_continue f dying (Drop ∷ rest) h = absurd h
  framed_continue f dying (Paste base image ∷ rest) h = absurd h
  framed_continue f dying (Decide is_and e ∷ rest) h = absurd h
  framed_continue f dying (Pick b c ∷ rest) h = absurd h
  framed_continue f dying (Enter site t k ∷ rest) h = absurd h
  framed_continue f dying (Discard id ∷ rest) h = absurd h
  framed_continue f dying (Choose id s t ∷ rest) h = absurd h
  framed_continue f dying (Turn id e s ∷ rest) h = absurd h
  framed_continue f dying (Deliver id ∷ rest) h = absurd h
  framed_continue f dying (Finish id ∷ rest) h = absurd h
  framed_continue f dying (ForTurn w s ∷ rest) h = absurd h
  framed_continue f dying (DoTurn w s ∷ rest) h = absurd h
  framed_continue f dying (Select id s ∷ rest) h = absurd h

  behind_continue : (f : Function) (dying : List ℕ) (control : List Work) → Behind f control → OnJump f (jump_on dying control)
  behind_continue f dying [] h = absurd h
  behind_continue f dying (Frame g site ∷ rest) h = absurd h
  behind_continue f dying (Do s ∷ rest) h = absurd h
  behind_continue f dying (Loop id e s ∷ rest) h = absurd h
  behind_continue f dying (Body stmts ∷ rest) h = absurd h
  behind_continue f dying (Close bases stmts ∷ rest) h = framed_continue f (dying ++ bases) rest h.1
  behind_continue f dying (ForHead w s ∷ rest) h = absurd h
  behind_continue f dying (ForNext w s ∷ rest) h = absurd h
  behind_continue f dying (DoTest w s ∷ rest) h = absurd h
  behind_continue f dying (Switched ∷ rest) h = absurd h
  behind_continue f dying (Brace id result ∷ rest) h = absurd h
  behind_continue f dying (Fetch type ∷ rest) h = absurd h
  behind_continue f dying (Use ∷ rest) h = absurd h
  behind_continue f dying (AsPlace ∷ rest) h = absurd h
  behind_continue f dying (Reach c m ∷ rest) h = absurd h
  behind_continue f dying (Sample type ∷ rest) h = absurd h
  behind_continue f dying (FetchCells t ∷ rest) h = absurd h
  behind_continue f dying (ApplyOne op kind ∷ rest) h = absurd h
  behind_continue f dying (Change t ∷ rest) h = absurd h
  behind_continue f dying (Settle ∷ rest) h = absurd h
  behind_continue f dying (Increase up t ∷ rest) h = absurd h
  behind_continue f dying (Store type ∷ rest) h = absurd h
  behind_continue f dying (Apply op kind ∷ rest) h = absurd h
  behind_continue f dying (Index t k end ∷ rest) h = absurd h
  behind_continue f dying (IndexedBy t k end ∷ rest) h = absurd h
  behind_continue f dying (StoreCells named t ∷ rest) h = absurd h
  behind_continue f dying (CopyCells named t ∷ rest) h = absurd h
  behind_continue f dying (ApplyPointers op left right ∷ rest) h = absurd h
  behind_continue f dying (Put type ∷ rest) h = absurd h
  behind_continue f dying (Evaluate e ∷ rest) h = absurd h
  behind_continue f dying (Locate q ∷ rest) h = absurd h
  behind_continue f dying (Again ∷ rest) h = absurd h
  behind_continue f dying (Tuck ∷ rest) h = absurd h
  behind_continue f dying (Drop ∷ rest) h = absurd h
  behind_continue f dying (Paste base image ∷ rest) h = absurd h
  behind_continue f dying (Decide is_and e ∷ rest) h = absurd h
  behind_continue f dying (Pick b c ∷ rest) h = absurd h
  behind_continue f dying (Enter site t k ∷ rest) h = absurd h
  behind_continue f dying (Discard id ∷ rest) h = absurd h
  behind_continue f dying (Choose id s t ∷ rest) h = absurd h
  behind_continue f dying (Turn id e s ∷ rest) h = absurd h
  behind_continue f dying (Deliver id ∷ rest) h = absurd h
  behind_continue f dying (Finish id ∷ rest) h = absurd h
  behind_continue f dying (ForTurn w s ∷ rest) h = absurd h
  behind_continue f dying (DoTurn w s ∷ rest) h = absurd h
  behind_continue f dying (Select id s ∷ rest) h = absurd h

  pub continue_lands : (f : Function) (dying : List ℕ) (control : List Work) → At f control → OnJump f (jump_on dying control)
  continue_lands f dying [] h = absurd h
  continue_lands f dying (Frame g site ∷ rest) h = absurd h
  continue_lands f dying (Do s ∷ rest) h = continue_lands f dying rest h.1
  continue_lands f dying (Loop id e s ∷ rest) h = h
  continue_lands f dying (Body stmts ∷ rest) h = continue_lands f dying rest h.1
  continue_lands f dying (Close bases stmts ∷ rest) h = continue_lands f (dying ++ bases) rest h.1
  continue_lands f dying (ForHead w s ∷ rest) h = continue_lands f dying rest h.1
  continue_lands f dying (ForNext w s ∷ rest) h = h
  continue_lands f dying (DoTest w s ∷ rest) h = h
  continue_lands f dying (Switched ∷ rest) h = continue_lands f dying rest h
  continue_lands f dying (Brace id result ∷ rest) h = behind_continue f dying rest h.1
  continue_lands f dying (Fetch type ∷ rest) h = absurd h
  continue_lands f dying (Use ∷ rest) h = absurd h
  continue_lands f dying (AsPlace ∷ rest) h = absurd h
  continue_lands f dying (Reach c m ∷ rest) h = absurd h
  continue_lands f dying (Sample type ∷ rest) h = absurd h
  continue_lands f dying (FetchCells t ∷ rest) h = absurd h
  continue_lands f dying (ApplyOne op kind ∷ rest) h = absurd h
  continue_lands f dying (Change t ∷ rest) h = absurd h
  continue_lands f dying (Settle ∷ rest) h = absurd h
  continue_lands f dying (Increase up t ∷ rest) h = absurd h
  continue_lands f dying (Store type ∷ rest) h = absurd h
  continue_lands f dying (Apply op kind ∷ rest) h = absurd h
  continue_lands f dying (Index t k end ∷ rest) h = absurd h
  continue_lands f dying (IndexedBy t k end ∷ rest) h = absurd h
  continue_lands f dying (StoreCells named t ∷ rest) h = absurd h
  continue_lands f dying (CopyCells named t ∷ rest) h = absurd h
  continue_lands f dying (ApplyPointers op left right ∷ rest) h = absurd h
  continue_lands f dying (Put type ∷ rest) h = absurd h
  continue_lands f dying (Evaluate e ∷ rest) h = absurd h
  continue_lands f dying (Locate q ∷ rest) h = absurd h
  continue_lands f dying (Again ∷ rest) h = absurd h
  continue_lands f dying (Tuck ∷ rest) h = absurd h
  continue_lands f dying (Drop ∷ rest) h = absurd h
  continue_lands f dying (Paste base image ∷ rest) h = absurd h
  continue_lands f dying (Decide is_and e ∷ rest) h = absurd h
  continue_lands f dying (Pick b c ∷ rest) h = absurd h
  continue_lands f dying (Enter site t k ∷ rest) h = absurd h
  continue_lands f dying (Discard id ∷ rest) h = absurd h
  continue_lands f dying (Choose id s t ∷ rest) h = absurd h
  continue_lands f dying (Turn id e s ∷ rest) h = absurd h
  continue_lands f dying (Deliver id ∷ rest) h = absurd h
  continue_lands f dying (Finish id ∷ rest) h = absurd h
  continue_lands f dying (ForTurn w s ∷ rest) h = absurd h
  continue_lands f dying (DoTurn w s ∷ rest) h = absurd h
  continue_lands f dying (Select id s ∷ rest) h = absurd h

  -- ---- `switch`

  case_lands : (f : Function) (value : Option ℤ) (s : Stmt) (rest : List Work) → Of f s → At f rest → Lands f (at_case value s rest)
  case_lands f value (Expression id e) rest h k = tt
  case_lands f value (Return id e) rest h k = tt
  case_lands f value Nothing rest h k = tt
  case_lands f value (Empty id) rest h k = tt
  case_lands f value (ReturnNothing id) rest h k = tt
  case_lands f value (Goto id label) rest h k = tt
  case_lands f value (Break id) rest h k = tt
  case_lands f value (Continue id) rest h k = tt
  case_lands f value (Initialise id base cleared items) rest h k = tt
  case_lands f value (Assert id predicate) rest h k = tt
  case_lands f value (If id e s t) rest h k = tt
  case_lands f value (While id e s) rest h k = tt
  case_lands f value (Block bases stmts) rest h k = tt
  case_lands f value (DoWhile w s) rest h k = tt
  case_lands f value (For w s) rest h k = tt
  case_lands f value (Switch id e s) rest h k = tt
  case_lands f value (Label name s) rest h k = case_lands f value s rest h k
  case_lands f value (Case v s) rest h k = by_value (case_lands f value s rest h k) (same_case value v)
    where
      by_value : Lands f (at_case value s rest) → (t : Bool) → Lands f (cond t (Some (Do s ∷ rest)) (at_case value s rest))
      by_value inside true = (h, k)
      by_value inside false = inside

  cases_land : (f : Function) (value : Option ℤ) (stmts : Stmts) (rest : List Work) → AllOf f stmts → At f rest → Lands f (at_case_in value stmts rest)
  cases_land f value Done rest h k = tt
  cases_land f value (Next s more) rest h k =
      first_lands f (at_case value s (queued more rest)) (at_case_in value more rest)
      (case_lands f value s (queued more rest) h.0 (queued_at p l f more rest held h.1 k)) (cases_land f value more rest h.1 k)

  -- what a `switch` enters is work of the function
  abbrev pub OnEntry : Function → Option Entry → Type 0
  OnEntry f None = Unit {0}
  OnEntry f (Some e) = At f e.control

  entry_lands : (f : Function) (bases : List ℕ) (o : Option (List Work)) → Lands f o → OnEntry f (entry_at bases o)
  entry_lands f bases None h = tt
  entry_lands f bases (Some control) h = h

  pub switch_lands : (f : Function) (n : ℤ) (s : Stmt) (rest : List Work) → Of f s → At f rest → OnEntry f (selected n s rest)
  switch_lands f n (Block bases stmts) rest h k =
      let inner : List Work = Close bases stmts ∷ Switched ∷ rest in
      entry_lands f bases (first_some (at_case_in (Some n) stmts inner) (at_case_in None stmts inner))
      (first_lands f (at_case_in (Some n) stmts inner) (at_case_in None stmts inner)
      (cases_land f (Some n) stmts inner h (h, k)) (cases_land f None stmts inner h (h, k)))
  switch_lands f n (Label name s) rest h k = switch_lands f n s rest h k
  switch_lands f n (Expression id e) rest h k = tt
  switch_lands f n (Return id e) rest h k = tt
  switch_lands f n Nothing rest h k = tt
  switch_lands f n (Empty id) rest h k = tt
  switch_lands f n (ReturnNothing id) rest h k = tt
  switch_lands f n (Goto id label) rest h k = tt
  switch_lands f n (Break id) rest h k = tt
  switch_lands f n (Continue id) rest h k = tt
  switch_lands f n (Initialise id base cleared items) rest h k = tt
  switch_lands f n (Assert id predicate) rest h k = tt
  switch_lands f n (If id e s t) rest h k = tt
  switch_lands f n (While id e s) rest h k = tt
  switch_lands f n (DoWhile w s) rest h k = tt
  switch_lands f n (For w s) rest h k = tt
  switch_lands f n (Switch id e s) rest h k = tt
  switch_lands f n (Case value s) rest h k = tt
