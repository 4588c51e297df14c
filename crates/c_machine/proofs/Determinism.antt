-- A state has one step, but where it loads from a volatile object.
use Rattle.std.proofs.Common.{◌≡◌, ℕ, zero, suc, false, List, [], ◌∷◌, Option, None, Some, Result, Ok, Err, sym, ◌∙◌}
use Rattle.c_memory.specs.Layouts.{Layout}
use Rattle.c_program.specs.Syntax.{Lvalue, Variable, Pointed, Temporary, Member, Element, ElementOf, Expr, Number, Load, Binary, Assign, LoadCells, AssignCells, Address, Unary, Convert, OnPointers, Logic, Conditional, Compound, Step as StepExpr, Comma, Call, Exprs, NoExpr, NextExpr, Stmt, Expression, Return, If, While, Block, Nothing, Empty, ReturnNothing, DoWhile, For, Switch, Case, Label, Goto, Break, Continue, Initialise, Assert, Stmts, Done, Next, Function, function_at, Program}
use Rattle.c_machine.specs.Machine.{Held, Usable, Unusable, Cells, Absent, Part, used, Work, Do, Evaluate, Locate, Fetch, Store, Apply, Discard, Choose, Loop, Turn, Deliver, Body, Brace, Close, Frame, Use, AsPlace, Reach, Index, IndexedBy, Sample, FetchCells, StoreCells, CopyCells, ApplyOne, Change, ApplyPointers, Decide, Settle, Pick, Again, Tuck, Increase, Drop, Enter, Put, Paste, Finish, ForHead, ForNext, ForTurn, DoTest, DoTurn, Select, Switched, State, Outcome, Exit, exit_of, fallen, Leaves, Jumps, EntersFunction, EntersBase, EntersWith, Enters, Does, DoesNext}
use Rattle.c_machine.specs.Jumps.{Jump, jump_to, jump_behind, jump_on}
use Rattle.c_machine.specs.Parts.{called_function, used_arguments, split_held}
use Rattle.c_machine.specs.Laws.{is_choice, IsDeterministic}

leaves_once : (h : Held) (s : State) (e : Option Exit) (a b : Outcome) → Leaves h s e a → Leaves h s e b → a ≡ b
leaves_once h s None a b p q = absurd p
leaves_once h s (Some e) a b p q = p ∙ sym q

jumps_once : (s : State) (j : Option Jump) (a b : Outcome) → Jumps s j a → Jumps s j b → a ≡ b
jumps_once s None a b p q = absurd p
jumps_once s (Some j) a b p q = p ∙ sym q

module _ (program : Program) where
  function_once : (l : Layout) (site : ℕ) (arguments : _) (s : State) (f : Option Function) (a b : Outcome) → EntersFunction l site arguments s f a →
      EntersFunction l site arguments s f b → a ≡ b
  function_once l site arguments s None a b p q = absurd p
  function_once l site arguments s (Some f) a b p q = p ∙ sym q

  base_once : (l : Layout) (site : ℕ) (arguments : _) (s : State) (f : Result ℕ _) (a b : Outcome) → EntersBase program l site arguments s f a →
      EntersBase program l site arguments s f b → a ≡ b
  base_once l site arguments s (Err kind) a b p q = p ∙ sym q
  base_once l site arguments s (Ok f) a b p q = function_once l site arguments s (function_at program.functions f) a b p q

  with_once : (l : Layout) (site : ℕ) (t : _) (s : State) (v : Result _ _) (arguments : Result _ _) (a b : Outcome) → EntersWith program l site t s v arguments a →
      EntersWith program l site t s v arguments b → a ≡ b
  with_once l site t s (Err kind) arguments a b p q = p ∙ sym q
  with_once l site t s (Ok v) (Err kind) a b p q = p ∙ sym q
  with_once l site t s (Ok v) (Ok arguments) a b p q = base_once l site arguments s (called_function program l t v) a b p q

  enters_once : (l : Layout) (site : ℕ) (t : _) (s : State) (split : Option (List Held × List Held)) (a b : Outcome) → Enters program l site t s split a →
      Enters program l site t s split b → a ≡ b
  enters_once l site t s None a b p q = absurd p
  enters_once l site t s (Some ([], below)) a b p q = absurd p
  enters_once l site t s (Some (f ∷ arguments, below)) a b p q = with_once l site t (record s { held = below }) (used f) (used_arguments arguments) a b p q

  does_once : (l : Layout) (work : Work) (held : List Held) (rest : List Work) (s : State) (a b : Outcome) → is_choice (work ∷ rest) ≡ false →
      Does program l work held s a → Does program l work held s b → a ≡ b
  does_once l (Do (Expression id e)) held rest s a b none p q = p ∙ sym q
  does_once l (Do (Return id e)) held rest s a b none p q = p ∙ sym q
  does_once l (Do (If id e left right)) held rest s a b none p q = p ∙ sym q
  does_once l (Do (While id e body)) held rest s a b none p q = p ∙ sym q
  does_once l (Do (Block bases stmts)) held rest s a b none p q = p ∙ sym q
  does_once l (Do Nothing) held rest s a b none p q = p ∙ sym q
  does_once l (Do (Empty id)) held rest s a b none p q = p ∙ sym q
  does_once l (Do (ReturnNothing id)) held rest s a b none p q = p ∙ sym q
  does_once l (Do (DoWhile w body)) held rest s a b none p q = p ∙ sym q
  does_once l (Do (For w body)) held rest s a b none p q = p ∙ sym q
  does_once l (Do (Switch id e body)) held rest s a b none p q = p ∙ sym q
  does_once l (Do (Case value body)) held rest s a b none p q = p ∙ sym q
  does_once l (Do (Label name body)) held rest s a b none p q = p ∙ sym q
  does_once l (Do (Goto id name)) held rest s a b none p q = jumps_once s (jump_to name [] s.control) a b p q
  does_once l (Do (Break id)) held rest s a b none p q = jumps_once s (jump_behind [] s.control) a b p q
  does_once l (Do (Continue id)) held rest s a b none p q = jumps_once s (jump_on [] s.control) a b p q
  does_once l (Do (Initialise id base cleared items)) held rest s a b none p q = p ∙ sym q
  does_once l (Do (Assert id predicate)) held rest s a b none p q = absurd p
  does_once l (Evaluate (Number kind n)) held rest s x y none one two = one ∙ sym two
  does_once l (Evaluate (Load type q)) held rest s x y none one two = one ∙ sym two
  does_once l (Evaluate (Binary op kind a b)) held rest s x y none one two = one ∙ sym two
  does_once l (Evaluate (Assign type q e)) held rest s x y none one two = one ∙ sym two
  does_once l (Evaluate (LoadCells t q)) held rest s x y none one two = one ∙ sym two
  does_once l (Evaluate (AssignCells t q e)) held rest s x y none one two = one ∙ sym two
  does_once l (Evaluate (Address t q)) held rest s x y none one two = one ∙ sym two
  does_once l (Evaluate (Unary op kind e)) held rest s x y none one two = one ∙ sym two
  does_once l (Evaluate (Convert t e)) held rest s x y none one two = one ∙ sym two
  does_once l (Evaluate (OnPointers op left right a b)) held rest s x y none one two = one ∙ sym two
  does_once l (Evaluate (Logic is_and a b)) held rest s x y none one two = one ∙ sym two
  does_once l (Evaluate (Conditional t a b c)) held rest s x y none one two = one ∙ sym two
  does_once l (Evaluate (Compound op t left right q e)) held rest s x y none one two = one ∙ sym two
  does_once l (Evaluate (StepExpr up behind t q)) held rest s x y none one two = one ∙ sym two
  does_once l (Evaluate (Comma a b)) held rest s x y none one two = one ∙ sym two
  does_once l (Evaluate (Call site t q arguments)) held rest s x y none one two = one ∙ sym two
  does_once l (Locate (Variable base)) held rest s x y none one two = one ∙ sym two
  does_once l (Locate (Pointed e t volatile)) held rest s x y none one two = one ∙ sym two
  does_once l (Locate (Temporary e t)) held rest s x y none one two = one ∙ sym two
  does_once l (Locate (Member q c m)) held rest s x y none one two = one ∙ sym two
  does_once l (Locate (Element q e t k end)) held rest s x y none one two = one ∙ sym two
  does_once l (Locate (ElementOf e q t k end)) held rest s x y none one two = one ∙ sym two
  does_once l (Fetch type) [] rest s a b none p q = absurd p
  does_once l (Fetch type) (z ∷ held) rest s a b none p q = p ∙ sym q
  does_once l (Store type) [] rest s a b none p q = absurd p
  does_once l (Store type) (z ∷ []) rest s a b none p q = absurd p
  does_once l (Store type) (z ∷ w ∷ held) rest s a b none p q = p ∙ sym q
  does_once l (Apply op kind) [] rest s a b none p q = absurd p
  does_once l (Apply op kind) (z ∷ []) rest s a b none p q = absurd p
  does_once l (Apply op kind) (z ∷ w ∷ held) rest s a b none p q = p ∙ sym q
  does_once l (Discard id) [] rest s a b none p q = absurd p
  does_once l (Discard id) (z ∷ held) rest s a b none p q = p ∙ sym q
  does_once l (Choose id s t) [] rest state a b none p q = absurd p
  does_once l (Choose id s t) (z ∷ held) rest state a b none p q = p ∙ sym q
  does_once l (Loop id e s) held rest state a b none p q = p ∙ sym q
  does_once l (Turn id e s) [] rest state a b none p q = absurd p
  does_once l (Turn id e s) (z ∷ held) rest state a b none p q = p ∙ sym q
  does_once l (Deliver id) [] rest s a b none p q = absurd p
  does_once l (Deliver id) (Usable v ∷ held) rest s a b none p q = leaves_once (Usable v) (record s { held = held }) (exit_of [] s.control) a b p q
  does_once l (Deliver id) (Unusable kind ∷ held) rest s a b none p q = p ∙ sym q
  does_once l (Deliver id) (Cells cells ∷ held) rest s a b none p q = leaves_once (Cells cells) (record s { held = held }) (exit_of [] s.control) a b p q
  does_once l (Deliver id) (Absent ∷ held) rest s a b none p q = leaves_once Absent (record s { held = held }) (exit_of [] s.control) a b p q
  does_once l (Deliver id) (Part cells ∷ held) rest s a b none p q = leaves_once (Part cells) (record s { held = held }) (exit_of [] s.control) a b p q
  does_once l (Body stmts) held rest s a b none p q = p ∙ sym q
  does_once l (Brace id result) held rest s a b none p q = leaves_once (fallen result (exit_of [] s.control)) s (exit_of [] s.control) a b p q
  does_once l (Close bases stmts) held rest s a b none p q = p ∙ sym q
  does_once l (Frame function site) held rest s a b none p q = absurd p
  does_once l Use [] rest s a b none p q = absurd p
  does_once l Use (z ∷ held) rest s a b none p q = p ∙ sym q
  does_once l AsPlace [] rest s a b none p q = absurd p
  does_once l AsPlace (z ∷ held) rest s a b none p q = p ∙ sym q
  does_once l (Reach c m) [] rest s a b none p q = absurd p
  does_once l (Reach c m) (z ∷ held) rest s a b none p q = p ∙ sym q
  does_once l (Index t k end) [] rest s a b none p q = absurd p
  does_once l (Index t k end) (z ∷ []) rest s a b none p q = absurd p
  does_once l (Index t k end) (z ∷ w ∷ held) rest s a b none p q = p ∙ sym q
  does_once l (IndexedBy t k end) [] rest s a b none p q = absurd p
  does_once l (IndexedBy t k end) (z ∷ []) rest s a b none p q = absurd p
  does_once l (IndexedBy t k end) (z ∷ w ∷ held) rest s a b none p q = p ∙ sym q
  does_once l (Sample type) held rest s a b none p q = absurd (cc)
  does_once l (FetchCells t) [] rest s a b none p q = absurd p
  does_once l (FetchCells t) (z ∷ held) rest s a b none p q = p ∙ sym q
  does_once l (StoreCells named t) [] rest s a b none p q = absurd p
  does_once l (StoreCells named t) (z ∷ []) rest s a b none p q = absurd p
  does_once l (StoreCells named t) (z ∷ w ∷ held) rest s a b none p q = p ∙ sym q
  does_once l (CopyCells named t) [] rest s a b none p q = absurd p
  does_once l (CopyCells named t) (z ∷ []) rest s a b none p q = absurd p
  does_once l (CopyCells named t) (z ∷ w ∷ held) rest s a b none p q = p ∙ sym q
  does_once l (ApplyOne op kind) [] rest s a b none p q = absurd p
  does_once l (ApplyOne op kind) (z ∷ held) rest s a b none p q = p ∙ sym q
  does_once l (Change t) [] rest s a b none p q = absurd p
  does_once l (Change t) (z ∷ held) rest s a b none p q = p ∙ sym q
  does_once l (ApplyPointers op left right) [] rest s a b none p q = absurd p
  does_once l (ApplyPointers op left right) (z ∷ []) rest s a b none p q = absurd p
  does_once l (ApplyPointers op left right) (z ∷ w ∷ held) rest s a b none p q = p ∙ sym q
  does_once l (Decide is_and e) [] rest s a b none p q = absurd p
  does_once l (Decide is_and e) (z ∷ held) rest s a b none p q = p ∙ sym q
  does_once l Settle [] rest s a b none p q = absurd p
  does_once l Settle (z ∷ held) rest s a b none p q = p ∙ sym q
  does_once l (Pick b c) [] rest s x y none p q = absurd p
  does_once l (Pick b c) (z ∷ held) rest s x y none p q = p ∙ sym q
  does_once l Again [] rest s a b none p q = absurd p
  does_once l Again (z ∷ held) rest s a b none p q = p ∙ sym q
  does_once l Tuck [] rest s a b none p q = absurd p
  does_once l Tuck (z ∷ []) rest s a b none p q = absurd p
  does_once l Tuck (z ∷ w ∷ held) rest s a b none p q = p ∙ sym q
  does_once l (Increase up t) [] rest s a b none p q = absurd p
  does_once l (Increase up t) (z ∷ held) rest s a b none p q = p ∙ sym q
  does_once l Drop [] rest s a b none p q = absurd p
  does_once l Drop (z ∷ held) rest s a b none p q = p ∙ sym q
  does_once l (Enter site t k) held rest s a b none p q = enters_once l site t s (split_held (suc k) [] held) a b p q
  does_once l (Put type) [] rest s a b none p q = absurd p
  does_once l (Put type) (z ∷ []) rest s a b none p q = absurd p
  does_once l (Put type) (z ∷ w ∷ held) rest s a b none p q = p ∙ sym q
  does_once l (Paste base image) held rest s a b none p q = p ∙ sym q
  does_once l (Finish id) held rest s a b none p q = p ∙ sym q
  does_once l (ForHead h s) held rest state a b none p q = p ∙ sym q
  does_once l (ForNext h s) held rest state a b none p q = p ∙ sym q
  does_once l (ForTurn h s) [] rest state a b none p q = absurd p
  does_once l (ForTurn h s) (z ∷ held) rest state a b none p q = p ∙ sym q
  does_once l (DoTest h s) held rest state a b none p q = p ∙ sym q
  does_once l (DoTurn h s) [] rest state a b none p q = absurd p
  does_once l (DoTurn h s) (z ∷ held) rest state a b none p q = p ∙ sym q
  does_once l (Select id s) [] rest state a b none p q = absurd p
  does_once l (Select id s) (z ∷ held) rest state a b none p q = p ∙ sym q
  does_once l Switched held rest s a b none p q = p ∙ sym q

  next_once : (l : Layout) (control : List Work) (s : State) (a b : Outcome) → is_choice control ≡ false → DoesNext program l control s a →
      DoesNext program l control s b → a ≡ b
  next_once l [] s a b none p q = absurd p
  next_once l (work ∷ rest) s a b none p q = does_once l work s.held rest (record s { control = rest }) a b none p q

  pub deterministic : (l : Layout) → IsDeterministic program l
  deterministic l s a b none p q = next_once l s.control s a b none p q
