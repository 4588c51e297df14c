-- Runs don't get stuck: what is held is what the work asks for, and jumps and calls have where they lead.
use Rattle.std.proofs.Common.{◌≡◌, ℕ, zero, suc, ◌+◌, Bool, true, false, cond, ◌&&◌, ◌⊎◌, IsTrue, ◌==◌, List, [], ◌∷◌, ◌++◌, length, pos, Option, None, Some, Result, Ok, Err, refl, sym, ap, subst, ◌∙◌, inl, inr, arith}
use Rattle.std.specs.Prelude.{is_some, IsSome}
use Rattle.std.specs.List.{AllByRecursion}
use Rattle.c_base.specs.declared.kind.Kind.{Kind}
use Rattle.c_base.specs.declared.kind.Kind.TheVariants.{FunctionPointer}
use Rattle.c_base.specs.Integers.{is_signed, width_of, FitsBits}
use Rattle.c_memory.specs.declared.scalar.Scalar.{Scalar}
use Rattle.c_memory.specs.Scalars.{kind_in_memory, size_of_scalar}
use Rattle.c_memory.specs.Values.{Value, Cell, plain}
use Rattle.c_memory.specs.Layouts.{Layout}
use Rattle.c_memory.specs.Memories.{Memory, loaded, stored, died, reached}
use Rattle.c_memory.specs.Operations.{truth_of, applied_to}
use Rattle.c_types.specs.Types.{CType, Void, Integer, Pointer, Array, Composite, Function as signature, scalar_of}
use Rattle.c_types.specs.Sizes.{size}
use Rattle.c_types.specs.Compatible.{is_compatible}
use Rattle.c_pointers.specs.Conversions.{applied_to_one}
use Rattle.c_pointers.specs.Addresses.{only_base, distance}
use Rattle.c_base.specs.Operators.{is_zero}
use Rattle.c_effects.specs.Ranges.{read, put, written, copied}
use Rattle.c_program.specs.Syntax.{Lvalue, Variable, Pointed, Temporary, Member, Element, ElementOf, Expr, Number, Load, Binary, Assign, LoadCells, AssignCells, Address, Unary, Convert, OnPointers, Logic, Conditional, Compound, Step as StepExpr, Comma, Call, Exprs, NoExpr, NextExpr, Stmt, Expression, Return, If, While, Block, Nothing, Empty, ReturnNothing, DoWhile, For, Switch, Case, Label, Goto, Break, Continue, Initialise, Assert, Stmts, Done, Next, Numbered, Head, Item, Value as ValueItem, Content, Base, base_at, Function, function_at, Program}
use Rattle.c_program.specs.StaticCalls.{is_func, is_function_of}
use Rattle.c_program.specs.Flow.{within_block, outermost, IsFlowing}
use Rattle.c_machine.specs.Machine.{Held, Usable, Unusable, Cells, Absent, Part, used, Work, Do, Evaluate, Locate, Fetch, Store, Apply, Discard, Choose, Loop, Turn, Deliver, Body, Brace, Close, Frame, Use, AsPlace, Reach, Index, IndexedBy, Sample, FetchCells, StoreCells, CopyCells, ApplyOne, Change, ApplyPointers, Decide, Settle, Pick, Again, Tuck, Increase, Drop, Enter, Put, Paste, Finish, ForHead, ForNext, ForTurn, DoTest, DoTurn, Select, Switched, queued, State, Outcome, Goes, Stops, Exit, exit_of, fallen, handed, holding, Leaves, Jumps as JumpsTo, enters, EntersFunction, EntersBase, EntersWith, Enters as EntersBy, Samples, SamplesAt, entering, body_of, begun, tested, called_type, stops_in, Does, Step, with_value, with_memory, with_truth, with_address, with_target, with_operands, with_held, with_place, with_change, with_put, with_cells, with_copied, with_copy, with_cells_held, with_one, with_two, with_decision, decided, picked, settled, with_conversion, with_change_of_type, with_index, with_selection, entered}
use Rattle.c_machine.specs.Jumps.{Jump, jump_to, jump_behind, jump_on, Entry, selected}
use Rattle.c_machine.specs.Parts.{part_value, cells_read, element_place, increased, on_pointers, function_from, called_function, used_arguments, split_held}
use Rattle.c_machine.specs.Unfolding.{is_volatile, fetched_by, is_temporary, source_work, cells_work, arguments_work, count, value_work, items_work, operator_work, compound_by, compound_work, stepped_by, step_work}
use Rattle.c_machine.specs.Laws.{HasStep, GoesOn, IsBareFunction, is_function, IsSelfContained}
use Rattle.c_machine.proofs.Leading.{Leads, AllLead, all_lead}
use Rattle.c_machine.proofs.Asking.{around_of, Below, Taken, Asks, IsLeft, queued_asks}
use Rattle.c_machine.proofs.Jumping.{Jumps, jump_lands, behind_lands, on_lands, Enters, selected_lands}
use Rattle.c_machine.proofs.Runs.{kept_along}
use Rattle.c_machine.proofs.Zeros.{zero_fits}

abbrev IsFed : State → Type 0
IsFed s = Asks s.control (length s.held)

-- ---- what work unfolds to asks for as much

module _ (program : Program) where
  fetched_asks : (q : Lvalue) (type : Scalar) (rest : List Work) (n : ℕ) → Below n (λ i. Asks rest (suc i)) → Asks (fetched_by program q type ∷ rest) n
  fetched_asks q type rest n h = by_test (is_volatile program q)
    where
      by_test : (t : Bool) → Asks (cond t (Sample type) (Fetch type) ∷ rest) n
      by_test true = h
      by_test false = h

  operator_asks : (op : _) (left right : CType) (rest : List Work) (n : ℕ) → Asks rest (suc n) → Asks (operator_work op left right ∷ rest) (suc (suc n))
  operator_asks op Void right rest n h = h
  operator_asks op (Integer kind) Void rest n h = h
  operator_asks op (Integer kind) (Integer other) rest n h = h
  operator_asks op (Integer kind) (Pointer other) rest n h = h
  operator_asks op (Integer kind) (Array other k) rest n h = h
  operator_asks op (Integer kind) (Composite k) rest n h = h
  operator_asks op (Integer kind) (signature other params variadic) rest n h = h
  operator_asks op (Pointer to) right rest n h = h
  operator_asks op (Array of m) right rest n h = h
  operator_asks op (Composite m) right rest n h = h
  operator_asks op (signature result params variadic) right rest n h = h

  compound_asks : (found : Option Scalar) (op : _) (t left right : CType) (q : Lvalue) (e : Expr) (rest : List Work) (n : ℕ) → Asks rest (suc n) →
      Asks (compound_by program found op t left right q e rest) n
  compound_asks None op t left right q e rest n h = h
  compound_asks (Some type) op t left right q e rest n h =
      fetched_asks q type (Change left ∷ Evaluate e ∷ operator_work op left right ∷ Change t ∷ Store type ∷ rest) (suc (suc n))
      (operator_asks op left right (Change t ∷ Store type ∷ rest) (suc n) h)

  step_asks : (found : Option Scalar) (up behind : Bool) (t : CType) (q : Lvalue) (rest : List Work) (n : ℕ) → Asks rest (suc n) →
      Asks (stepped_by program found up behind t q rest) n
  step_asks None up behind t q rest n h = h
  step_asks (Some type) up true t q rest n h = fetched_asks q type (Tuck ∷ Increase up t ∷ Store type ∷ Drop ∷ rest) (suc (suc n)) h
  step_asks (Some type) up false t q rest n h = fetched_asks q type (Increase up t ∷ Store type ∷ rest) (suc (suc n)) h

source_asks : (named : Bool) (t : CType) (value e : Expr) (rest : List Work) (n : ℕ) → Asks rest (suc n) → Asks (source_work named t value e rest) (suc n)
source_asks named t value (LoadCells u q) rest n h = by_test (is_temporary q)
  where
    by_test : (b : Bool) → Asks (cond b (Evaluate value ∷ StoreCells named t ∷ rest) (Locate q ∷ CopyCells named t ∷ rest)) (suc n)
    by_test true = h
    by_test false = h
source_asks named t value (Number kind n) rest held h = h
source_asks named t value (Load type q) rest held h = h
source_asks named t value (Binary op kind a b) rest held h = h
source_asks named t value (Assign type q e) rest held h = h
source_asks named t value (AssignCells r q e) rest held h = h
source_asks named t value (Address r q) rest held h = h
source_asks named t value (Unary op kind e) rest held h = h
source_asks named t value (Convert r e) rest held h = h
source_asks named t value (OnPointers op left right a b) rest held h = h
source_asks named t value (Logic is_and a b) rest held h = h
source_asks named t value (Conditional r a b c) rest held h = h
source_asks named t value (Compound op r left right q e) rest held h = h
source_asks named t value (StepExpr up behind r q) rest held h = h
source_asks named t value (Comma a b) rest held h = h
source_asks named t value (Call site r q arguments) rest held h = h

value_asks : (found : Option Scalar) (t : CType) (q : Lvalue) (e : Expr) (rest : List Work) (n : ℕ) → Asks rest n → Asks (value_work found t q e rest) n
value_asks (Some type) t q e rest n h = h
value_asks None t q e rest n h = source_asks true t e e (Drop ∷ rest) n h

items_asks : (base : ℕ) (items : List Item) (rest : List Work) (n : ℕ) → Asks rest n → Asks (items_work base items rest) n
items_asks base [] rest n h = h
items_asks base (ValueItem t q e ∷ more) rest n h = value_asks (scalar_of t) t q e (items_work base more rest) n (items_asks base more rest n h)
items_asks base (Content image ∷ more) rest n h = items_asks base more rest n h

taken : (k n : ℕ) (P : ℕ → Type 0) → P n → Taken k (k + n) P
taken zero n P h = subst P (omega arith) h
taken (suc k) n P h = let same : suc (k + n) ≡ suc k + n = omega arith in subst (λ m. Taken (suc k) m P) same (taken k n P h)

arguments_asks : (arguments : Exprs) (rest : List Work) (n : ℕ) → Asks rest (count arguments + n) → Asks (arguments_work arguments rest) n
arguments_asks NoExpr rest n h = subst (Asks rest) (omega arith) h
arguments_asks (NextExpr e more) rest n h =
    arguments_asks more rest (suc n) (subst (Asks rest) (omega arith) h)

call_asks : (site : ℕ) (t : CType) (arguments : Exprs) (rest : List Work) (n : ℕ) → Asks rest (suc n) →
    Asks (arguments_work arguments (Enter site t (count arguments) ∷ rest)) (suc n)
call_asks site t arguments rest n h =
    let all : Taken (suc (count arguments)) (suc (count arguments) + n) (λ i. Asks rest (suc i)) = taken (suc (count arguments)) n (λ i. Asks rest (suc i)) h in
    let same : suc (count arguments) + n ≡ count arguments + suc n = omega arith in
    arguments_asks arguments (Enter site t (count arguments) ∷ rest) (suc n) (subst (λ k. Taken (suc (count arguments)) k (λ i. Asks rest (suc i))) same all)

begun_asks : (first : Option Numbered) (rest : List Work) (n : ℕ) → IsLeft rest n → Asks rest n → Asks (begun first rest) n
begun_asks None rest n h k = k
begun_asks (Some first) rest n h k = (tt, h, k)

tested_asks : (condition : Option Expr) (turn : Work) (on rest : List Work) (n : ℕ) → Asks (turn ∷ rest) (suc n) → Asks on n → Asks (tested condition turn on rest) n
tested_asks None turn on rest n h k = k
tested_asks (Some e) turn on rest n h k = h

body_asks : (f : Function) (site : Option ℕ) (rest : List Work) (n : ℕ) → AllLead (within_block f.body outermost) f.body → Asks rest (suc n) → Asks (body_of f site rest) n
body_asks f site rest n l h =
    queued_asks f.body (Body f.body ∷ Brace f.end f.result ∷ Close (f.formals ++ f.locals) Done ∷ Frame f.base site ∷ rest) n l h (l, h, h)

-- ---- a step stays so

abbrev Keeps : Outcome → Type 0
Keeps (Goes t) = IsFed t
Keeps (Stops kind id sites) = Unit {0}

value_kept : (s : State) (r : Result Value Kind) → Asks s.control (suc (length s.held)) → Keeps (with_value s r)
value_kept s (Ok v) h = h
value_kept s (Err kind) h = tt

memory_kept : (v : Value) (s : State) (r : Result Memory Kind) → Asks s.control (suc (length s.held)) → Keeps (with_memory v s r)
memory_kept v s (Ok m) h = h
memory_kept v s (Err kind) h = tt

held_kept : (s : State) (r : Result Held Kind) → Asks s.control (suc (length s.held)) → Keeps (with_held s r)
held_kept s (Ok z) h = h
held_kept s (Err kind) h = tt

change_kept : (z : Held) (s : State) (r : Result Memory Kind) → Asks s.control (suc (length s.held)) → Keeps (with_change z s r)
change_kept z s (Ok m) h = h
change_kept z s (Err kind) h = tt

place_kept : (l : Layout) (type : Scalar) (s : State) (z : Held) → Asks s.control (suc (length s.held)) → Keeps (with_place l type s z)
place_kept l type s (Usable at) h = value_kept s (loaded l s.memory type at) h
place_kept l type s (Unusable kind) h = tt
place_kept l type s (Cells cells) h = tt
place_kept l type s Absent h = tt
place_kept l type s (Part cells) h = value_kept s (part_value l type cells) h

target_kept : (l : Layout) (type : _) (s : State) (a b : Result Value Kind) → Asks s.control (suc (length s.held)) → Keeps (with_target l type s a b)
target_kept l type s (Err kind) b h = tt
target_kept l type s (Ok at) (Err kind) h = tt
target_kept l type s (Ok at) (Ok v) h = memory_kept v s (stored l s.memory type at v) h

put_kept : (l : Layout) (type : _) (s : State) (a b : Result Value Kind) → Asks s.control (suc (length s.held)) → Keeps (with_put l type s a b)
put_kept l type s (Err kind) b h = tt
put_kept l type s (Ok at) (Err kind) h = tt
put_kept l type s (Ok at) (Ok v) h = memory_kept v s (put l s.memory type at v) h

cells_kept : (l : Layout) (named : Bool) (bytes : ℕ) (s : State) (r : Result Value Kind) (z : Held) → Asks s.control (suc (length s.held)) → Keeps (with_cells l named bytes s r z)
cells_kept l named bytes s (Err kind) z h = tt
cells_kept l named bytes s (Ok at) (Cells cells) h = change_kept (Cells cells) s (written l s.memory named bytes cells at) h
cells_kept l named bytes s (Ok at) (Usable v) h = tt
cells_kept l named bytes s (Ok at) (Unusable kind) h = tt
cells_kept l named bytes s (Ok at) Absent h = tt
cells_kept l named bytes s (Ok at) (Part cells) h = tt

copied_kept : (s : State) (r : Result (List Cell) Kind) (m : Result Memory Kind) → Asks s.control (suc (length s.held)) → Keeps (with_copied s r m)
copied_kept s (Err kind) m h = tt
copied_kept s (Ok cells) m h = change_kept (Cells cells) s m h

copy_kept : (l : Layout) (named : Bool) (bytes : ℕ) (s : State) (a b : Result Value Kind) → Asks s.control (suc (length s.held)) → Keeps (with_copy l named bytes s a b)
copy_kept l named bytes s (Err kind) b h = tt
copy_kept l named bytes s (Ok to) (Err kind) h = tt
copy_kept l named bytes s (Ok to) (Ok source) h = copied_kept s (read l s.memory bytes source) (copied l s.memory named bytes to source) h

cells_held_kept : (s : State) (r : Result (List Cell) Kind) → Asks s.control (suc (length s.held)) → Keeps (with_cells_held s r)
cells_held_kept s (Ok cells) h = h
cells_held_kept s (Err kind) h = tt

one_kept : (s : State) (f : Value → Result Value Kind) (r : Result Value Kind) → Asks s.control (suc (length s.held)) → Keeps (with_one s f r)
one_kept s f (Err kind) h = tt
one_kept s f (Ok v) h = value_kept s (f v) h

two_kept : (s : State) (f : Value → Value → Result Value Kind) (a b : Result Value Kind) → Asks s.control (suc (length s.held)) → Keeps (with_two s f a b)
two_kept s f (Err kind) b h = tt
two_kept s f (Ok v) (Err kind) h = tt
two_kept s f (Ok v) (Ok w) h = value_kept s (f v w) h

operands_kept : (l : Layout) (op : _) (kind : _) (s : State) (a b : Result Value Kind) → Asks s.control (suc (length s.held)) → Keeps (with_operands l op kind s a b)
operands_kept l op kind s (Err k) b h = tt
operands_kept l op kind s (Ok a) (Err k) h = tt
operands_kept l op kind s (Ok a) (Ok b) h = value_kept s (applied_to op kind l.machine a b) h

conversion_kept : (l : Layout) (t : CType) (s : State) (r : Result Value Kind) → Asks s.control (suc (length s.held)) → Keeps (with_conversion l t s r)
conversion_kept l t s (Err kind) h = tt
conversion_kept l t s (Ok v) h = h

type_kept : (l : Layout) (t : CType) (s : State) (z : Held) → Asks s.control (suc (length s.held)) → Keeps (with_change_of_type l t s z)
type_kept l Void s z h = h
type_kept l (Integer kind) s z h = conversion_kept l (Integer kind) s (used z) h
type_kept l (Pointer to) s z h = conversion_kept l (Pointer to) s (used z) h
type_kept l (Array of n) s z h = h
type_kept l (Composite n) s z h = h
type_kept l (signature result params variadic) s z h = h

decision_kept : (s : State) (next : Bool → State) (r : Result Value Kind) → ((t : Bool) → IsFed (next t)) → Keeps (with_decision s next r)
decision_kept s next (Err kind) h = tt
decision_kept s next (Ok v) h = h (truth_of v)

decided_fed : (is_and : Bool) (e : Expr) (s : State) → Asks s.control (suc (length s.held)) → (t : Bool) → IsFed (decided is_and e s t)
decided_fed true e s h true = h
decided_fed true e s h false = h
decided_fed false e s h true = h
decided_fed false e s h false = h

picked_fed : (b c : Expr) (s : State) → Asks s.control (suc (length s.held)) → (t : Bool) → IsFed (picked b c s t)
picked_fed b c s h true = h
picked_fed b c s h false = h

index_kept : (program : Program) (l : Layout) (t : CType) (k : ℕ) (end : Bool) (s : State) (z : Held) (r : Result Value Kind) → Asks s.control (suc (length s.held)) →
    Keeps (with_index program l t k end s z r)
index_kept program l t k end s z (Err kind) h = tt
index_kept program l t k end s z (Ok i) h = held_kept s (element_place program l t k end z i) h

truth_kept : (id : ℕ) (a b : List Work) (s : State) (r : Result Value Kind) → Asks a (length s.held) → Asks b (length s.held) → Keeps (with_truth id a b s r)
truth_kept id a b s (Ok v) h k = by_truth (truth_of v)
  where
    by_truth : (t : Bool) → Asks (cond t a b) (length s.held)
    by_truth true = h
    by_truth false = k
truth_kept id a b s (Err kind) h k = tt

entry_fed : (l : Layout) (s : State) (e : Option Entry) → Asks s.control (length s.held) → Enters e (length s.held) → IsFed (enters l s e)
entry_fed l s None h k = h
entry_fed l s (Some e) h k = k

selection_kept : (l : Layout) (id : ℕ) (body : Stmt) (s : State) (r : Result Value Kind) → ((v : _) → IsFed (enters l s (selected v body s.control))) →
    Keeps (with_selection l id body s r)
selection_kept l id body s (Ok v) h = h v.number
selection_kept l id body s (Err kind) h = tt

jumps_kept : (s : State) (j : Option Jump) (out : Outcome) → Jumps j (length s.held) → JumpsTo s j out → Keeps out
jumps_kept s None out h step = absurd step
jumps_kept s (Some j) out h step = subst Keeps (sym step) h

-- the way out that a function that can be left has
record WayOut (dying : List ℕ) (control : List Work) (n : ℕ) : Type 0 where
  exit : Exit
  found : exit_of dying control ≡ Some exit
  asks : Asks exit.rest (suc n)

way_out : (dying : List ℕ) (control : List Work) (n : ℕ) → IsLeft control n → WayOut dying control n
way_out dying [] n h = absurd h
way_out dying (Frame function site ∷ rest) n h = record { exit = record { dying = dying; function = function; site = site; rest = rest }; found = refl; asks = h }
way_out dying (Close bases stmts ∷ rest) n h = let w = way_out _ rest n h in record { exit = w.exit; found = w.found; asks = w.asks }
way_out dying (Do s ∷ rest) n way = let w = way_out dying rest n way in record { exit = w.exit; found = w.found; asks = w.asks }
way_out dying (Loop id e s ∷ rest) n way = let w = way_out dying rest n way in record { exit = w.exit; found = w.found; asks = w.asks }
way_out dying (Body stmts ∷ rest) n way = let w = way_out dying rest n way in record { exit = w.exit; found = w.found; asks = w.asks }
way_out dying (Brace id result ∷ rest) n way = let w = way_out dying rest n way in record { exit = w.exit; found = w.found; asks = w.asks }
way_out dying (ForHead p s ∷ rest) n way = let w = way_out dying rest n way in record { exit = w.exit; found = w.found; asks = w.asks }
way_out dying (ForNext p s ∷ rest) n way = let w = way_out dying rest n way in record { exit = w.exit; found = w.found; asks = w.asks }
way_out dying (DoTest p s ∷ rest) n way = let w = way_out dying rest n way in record { exit = w.exit; found = w.found; asks = w.asks }
way_out dying (Switched ∷ rest) n way = let w = way_out dying rest n way in record { exit = w.exit; found = w.found; asks = w.asks }
way_out dying (Evaluate e ∷ rest) n way = absurd way
way_out dying (Locate p ∷ rest) n way = absurd way
way_out dying (Fetch type ∷ rest) n way = absurd way
way_out dying (Store type ∷ rest) n way = absurd way
way_out dying (Apply op kind ∷ rest) n way = absurd way
way_out dying (Discard id ∷ rest) n way = absurd way
way_out dying (Choose id s t ∷ rest) n way = absurd way
way_out dying (Turn id e s ∷ rest) n way = absurd way
way_out dying (Deliver id ∷ rest) n way = absurd way
way_out dying (Use ∷ rest) n way = absurd way
way_out dying (AsPlace ∷ rest) n way = absurd way
way_out dying (Reach c m ∷ rest) n way = absurd way
way_out dying (Index t k end ∷ rest) n way = absurd way
way_out dying (IndexedBy t k end ∷ rest) n way = absurd way
way_out dying (Sample type ∷ rest) n way = absurd way
way_out dying (FetchCells t ∷ rest) n way = absurd way
way_out dying (StoreCells named t ∷ rest) n way = absurd way
way_out dying (CopyCells named t ∷ rest) n way = absurd way
way_out dying (ApplyOne op kind ∷ rest) n way = absurd way
way_out dying (Change t ∷ rest) n way = absurd way
way_out dying (ApplyPointers op left right ∷ rest) n way = absurd way
way_out dying (Decide is_and e ∷ rest) n way = absurd way
way_out dying (Settle ∷ rest) n way = absurd way
way_out dying (Pick b c ∷ rest) n way = absurd way
way_out dying (Again ∷ rest) n way = absurd way
way_out dying (Tuck ∷ rest) n way = absurd way
way_out dying (Increase up t ∷ rest) n way = absurd way
way_out dying (Drop ∷ rest) n way = absurd way
way_out dying (Enter site t k ∷ rest) n way = absurd way
way_out dying (Put type ∷ rest) n way = absurd way
way_out dying (Paste base image ∷ rest) n way = absurd way
way_out dying (Finish id ∷ rest) n way = absurd way
way_out dying (ForTurn h s ∷ rest) n way = absurd way
way_out dying (DoTurn h s ∷ rest) n way = absurd way
way_out dying (Select id s ∷ rest) n way = absurd way

leaves_kept : (h : Held) (s : State) (out : Outcome) → WayOut [] s.control (length s.held) → Leaves h s (exit_of [] s.control) out → Keeps out
leaves_kept h s out w step =
    let left : Leaves h s (Some w.exit) out = subst (λ e. Leaves h s e out) w.found step in
    subst Keeps (sym left) w.asks

sample_kept : (l : Layout) (type : Scalar) (s : State) (r : Result Value Kind) (out : Outcome) → Asks s.control (suc (length s.held)) → SamplesAt l type s r out → Keeps out
sample_kept l type s (Err kind) out h step = subst Keeps (sym step) tt
sample_kept l type s (Ok v) out h step = by_base (reached l s.memory (size_of_scalar type l.machine) v) step
  where
    by_base : (base : Option ℕ) → Samples l type s base out → Keeps out
    by_base None step = subst Keeps (sym step) tt
    by_base (Some base) (n, fits, step) = subst Keeps (sym step) h

-- ---- calls

-- what is held last, so much of it
record Split (k : ℕ) (last held : List Held) (P : ℕ → Type 0) : Type 0 where
  top : List Held
  below : List Held
  found : split_held k last held ≡ Some (top, below)
  enough : length top ≡ k + length last
  holds : P (length below)

split : (k : ℕ) (last held : List Held) (P : ℕ → Type 0) → Taken k (length held) P → Split k last held P
split zero last held P h = record { top = last; below = held; found = refl; enough = omega arith; holds = h }
split (suc k) last [] P h = absurd h
split (suc k) last (z ∷ held) P h =
    let s = split k (z ∷ last) held P h in
    record { top = s.top; below = s.below; found = s.found; enough = (let e = s.enough in omega arith); holds = s.holds }

module _ (program : Program) (lead : (base : ℕ) (f : Function) → function_at program.functions base ≡ Some f → AllLead (within_block f.body outermost) f.body) where
  function_kept : (l : Layout) (site : ℕ) (arguments : _) (s : State) (base : ℕ) (f : Option Function) (out : Outcome) → function_at program.functions base ≡ f →
      Asks s.control (suc (length s.held)) → EntersFunction l site arguments s f out → Keeps out
  function_kept l site arguments s base None out e h step = absurd step
  function_kept l site arguments s base (Some f) out e h step = subst Keeps (sym step) (body_asks f (Some site) s.control (length s.held) (lead base f e) h)

  base_kept : (l : Layout) (site : ℕ) (arguments : _) (s : State) (f : Result ℕ Kind) (out : Outcome) → Asks s.control (suc (length s.held)) →
      EntersBase program l site arguments s f out → Keeps out
  base_kept l site arguments s (Err kind) out h step = subst Keeps (sym step) tt
  base_kept l site arguments s (Ok f) out h step = function_kept l site arguments s f (function_at program.functions f) out refl h step

  with_kept : (l : Layout) (site : ℕ) (t : CType) (s : State) (v : Result Value Kind) (arguments : Result _ Kind) (out : Outcome) → Asks s.control (suc (length s.held)) →
      EntersWith program l site t s v arguments out → Keeps out
  with_kept l site t s (Err kind) arguments out h step = subst Keeps (sym step) tt
  with_kept l site t s (Ok v) (Err kind) out h step = subst Keeps (sym step) tt
  with_kept l site t s (Ok v) (Ok arguments) out h step = base_kept l site arguments s (called_function program l t v) out h step

  enters_kept : (l : Layout) (site : ℕ) (t : CType) (k : ℕ) (s : State) (held : List Held) (out : Outcome) → Split (suc k) [] held (λ i. Asks s.control (suc i)) →
      EntersBy program l site t s (split_held (suc k) [] held) out → Keeps out
  enters_kept l site t k s held out w step = by_top w.top w.enough (subst (λ o. EntersBy program l site t s o out) w.found step)
    where
      by_top : (top : List Held) → length top ≡ suc k + 0 → EntersBy program l site t s (Some (top, w.below)) out → Keeps out
      by_top [] e step = absurd (omega arith)
      by_top (f ∷ arguments) e step = with_kept l site t (record s { held = w.below }) (used f) (used_arguments arguments) out w.holds step

  kept : (l : Layout) (work : Work) (rest : List Work) (held : List Held) (mem : Memory) (out : Outcome) → Asks (work ∷ rest) (length held) →
      Does program l work held (record { control = rest; held = held; memory = mem }) out → Keeps out
  kept l (Do (Expression id e)) rest held mem out h step = subst Keeps (sym step) h.2
  kept l (Do (Return id e)) rest held mem out h step = subst Keeps (sym step) h.1
  kept l (Do (If id e left right)) rest held mem out h step = subst Keeps (sym step) (h.0.0, h.0.1, h.1, h.2)
  kept l (Do (While id e body)) rest held mem out h step = subst Keeps (sym step) h
  kept l (Do (Block bases stmts)) rest held mem out h step = subst Keeps (sym step) (queued_asks stmts (Close bases stmts ∷ rest) (length held) h.0 h.1 (h.0, h.1, h.2))
  kept l (Do Nothing) rest held mem out h step = subst Keeps (sym step) h.2
  kept l (Do (Empty id)) rest held mem out h step = subst Keeps (sym step) h.2
  kept l (Do (ReturnNothing id)) rest held mem out h step = subst Keeps (sym step) h.1
  kept l (Do (DoWhile w body)) rest held mem out h step = subst Keeps (sym step) (h.0, h.1, h)
  kept l (Do (For w body)) rest held mem out h step = subst Keeps (sym step) (begun_asks w.first (ForHead w body ∷ rest) (length held) h.1 h)
  kept l (Do (Switch id e body)) rest held mem out h step = subst Keeps (sym step) h
  kept l (Do (Case value body)) rest held mem out h step = subst Keeps (sym step) h
  kept l (Do (Label name body)) rest held mem out h step = subst Keeps (sym step) h
  kept l (Do (Initialise id base cleared items)) rest held mem out h step = subst Keeps (sym step) (items_asks base items (Finish id ∷ rest) (length held) h.2)
  kept l (Do (Goto id name)) rest held mem out h step = jumps_kept (record { control = rest; held = held; memory = mem }) (jump_to name [] rest) out (jump_lands name [] rest (length held) h.0 h.1 h.2) step
  kept l (Do (Break id)) rest held mem out h step = jumps_kept (record { control = rest; held = held; memory = mem }) (jump_behind [] rest) out (behind_lands [] rest (length held) h.0 h.1 h.2) step
  kept l (Do (Continue id)) rest held mem out h step = jumps_kept (record { control = rest; held = held; memory = mem }) (jump_on [] rest) out (on_lands [] rest (length held) h.0 h.1 h.2) step
  kept l (Do (Assert id predicate)) rest held mem out h step = absurd step
  kept l (Evaluate (Number kind n)) rest held mem out h step = subst Keeps (sym step) h
  kept l (Evaluate (Load type q)) rest held mem out h step = subst Keeps (sym step) (fetched_asks program q type rest (suc (length held)) h)
  kept l (Evaluate (Binary op kind a b)) rest held mem out h step = subst Keeps (sym step) h
  kept l (Evaluate (Assign type q e)) rest held mem out h step = subst Keeps (sym step) h
  kept l (Evaluate (LoadCells t q)) rest held mem out h step = subst Keeps (sym step) h
  kept l (Evaluate (AssignCells t q e)) rest held mem out h step = subst Keeps (sym step) (source_asks false t e e rest (length held) h)
  kept l (Evaluate (Address t q)) rest held mem out h step = subst Keeps (sym step) h
  kept l (Evaluate (Unary op kind e)) rest held mem out h step = subst Keeps (sym step) h
  kept l (Evaluate (Convert t e)) rest held mem out h step = subst Keeps (sym step) h
  kept l (Evaluate (OnPointers op left right a b)) rest held mem out h step = subst Keeps (sym step) h
  kept l (Evaluate (Logic is_and a b)) rest held mem out h step = subst Keeps (sym step) h
  kept l (Evaluate (Conditional t a b c)) rest held mem out h step = subst Keeps (sym step) h
  kept l (Evaluate (Compound op t left right q e)) rest held mem out h step = subst Keeps (sym step) (compound_asks program (scalar_of t) op t left right q e rest (length held) h)
  kept l (Evaluate (StepExpr up behind t q)) rest held mem out h step = subst Keeps (sym step) (step_asks program (scalar_of t) up behind t q rest (length held) h)
  kept l (Evaluate (Comma a b)) rest held mem out h step = subst Keeps (sym step) h
  kept l (Evaluate (Call site t q arguments)) rest held mem out h step = subst Keeps (sym step) (call_asks site (called_type program q) arguments rest (length held) h)
  kept l (Locate (Variable base)) rest held mem out h step = subst Keeps (sym step) h
  kept l (Locate (Pointed e t volatile)) rest held mem out h step = subst Keeps (sym step) h
  kept l (Locate (Temporary e t)) rest held mem out h step = subst Keeps (sym step) h
  kept l (Locate (Member q c m)) rest held mem out h step = subst Keeps (sym step) h
  kept l (Locate (Element q e t k end)) rest held mem out h step = subst Keeps (sym step) h
  kept l (Locate (ElementOf e q t k end)) rest held mem out h step = subst Keeps (sym step) h
  kept l (Fetch type) rest [] mem out h step = absurd step
  kept l (Fetch type) rest (z ∷ held) mem out h step = subst Keeps (sym step) (place_kept l type (record { control = rest; held = held; memory = mem }) z h)
  kept l (Store type) rest [] mem out h step = absurd step
  kept l (Store type) rest (z ∷ []) mem out h step = absurd step
  kept l (Store type) rest (z ∷ w ∷ held) mem out h step = subst Keeps (sym step) (target_kept l type (record { control = rest; held = held; memory = mem }) (used w) (used z) h)
  kept l (Apply op kind) rest [] mem out h step = absurd step
  kept l (Apply op kind) rest (z ∷ []) mem out h step = absurd step
  kept l (Apply op kind) rest (z ∷ w ∷ held) mem out h step = subst Keeps (sym step) (operands_kept l op kind (record { control = rest; held = held; memory = mem }) (used w) (used z) h)
  kept l (Discard id) rest [] mem out h step = absurd step
  kept l (Discard id) rest (z ∷ held) mem out h step = subst Keeps (sym step) h
  kept l (Choose id s t) rest [] mem out h step = absurd step
  kept l (Choose id s t) rest (z ∷ held) mem out h step = subst Keeps (sym step) (truth_kept id (Do s ∷ rest) (Do t ∷ rest) (record { control = rest; held = held; memory = mem }) (used z) (h.0, h.2, h.3) (h.1, h.2, h.3))
  kept l (Loop id e s) rest held mem out h step = subst Keeps (sym step) h
  kept l (Turn id e s) rest [] mem out h step = absurd step
  kept l (Turn id e s) rest (z ∷ held) mem out h step = subst Keeps (sym step) (truth_kept id (Do s ∷ Loop id e s ∷ rest) rest (record { control = rest; held = held; memory = mem }) (used z) (h.0, h.1, h) h.2)
  kept l (Deliver id) rest [] mem out h step = absurd step
  kept l (Deliver id) rest (Usable v ∷ held) mem out h step = leaves_kept (Usable v) (record { control = rest; held = held; memory = mem }) out (way_out [] rest (length held) h) step
  kept l (Deliver id) rest (Unusable kind ∷ held) mem out h step = subst Keeps (sym step) tt
  kept l (Deliver id) rest (Cells cells ∷ held) mem out h step = leaves_kept (Cells cells) (record { control = rest; held = held; memory = mem }) out (way_out [] rest (length held) h) step
  kept l (Deliver id) rest (Absent ∷ held) mem out h step = leaves_kept Absent (record { control = rest; held = held; memory = mem }) out (way_out [] rest (length held) h) step
  kept l (Deliver id) rest (Part cells ∷ held) mem out h step = leaves_kept (Part cells) (record { control = rest; held = held; memory = mem }) out (way_out [] rest (length held) h) step
  kept l (Body stmts) rest held mem out h step = subst Keeps (sym step) h.2
  kept l (Brace id result) rest held mem out h step = leaves_kept (fallen result (exit_of [] rest)) (record { control = rest; held = held; memory = mem }) out (way_out [] rest (length held) h) step
  kept l (Close bases stmts) rest held mem out h step = subst Keeps (sym step) h.2
  kept l (Frame function site) rest held mem out h step = absurd step
  kept l Use rest [] mem out h step = absurd step
  kept l Use rest (z ∷ held) mem out h step = subst Keeps (sym step) (value_kept (record { control = rest; held = held; memory = mem }) (used z) h)
  kept l AsPlace rest [] mem out h step = absurd step
  kept l AsPlace rest (z ∷ held) mem out h step = subst Keeps (sym step) h
  kept l (Reach c m) rest [] mem out h step = absurd step
  kept l (Reach c m) rest (z ∷ held) mem out h step = subst Keeps (sym step) h
  kept l (Index t k end) rest [] mem out h step = absurd step
  kept l (Index t k end) rest (z ∷ []) mem out h step = absurd step
  kept l (Index t k end) rest (z ∷ w ∷ held) mem out h step = subst Keeps (sym step) (index_kept program l t k end (record { control = rest; held = held; memory = mem }) w (used z) h)
  kept l (IndexedBy t k end) rest [] mem out h step = absurd step
  kept l (IndexedBy t k end) rest (z ∷ []) mem out h step = absurd step
  kept l (IndexedBy t k end) rest (z ∷ w ∷ held) mem out h step = subst Keeps (sym step) (index_kept program l t k end (record { control = rest; held = held; memory = mem }) z (used w) h)
  kept l (Sample type) rest [] mem out h step = absurd step
  kept l (Sample type) rest (z ∷ held) mem out h step = sample_kept l type (record { control = rest; held = held; memory = mem }) (used z) out h step
  kept l (FetchCells t) rest [] mem out h step = absurd step
  kept l (FetchCells t) rest (z ∷ held) mem out h step = subst Keeps (sym step) (cells_held_kept (record { control = rest; held = held; memory = mem }) (cells_read program l mem t z) h)
  kept l (StoreCells named t) rest [] mem out h step = absurd step
  kept l (StoreCells named t) rest (z ∷ []) mem out h step = absurd step
  kept l (StoreCells named t) rest (z ∷ w ∷ held) mem out h step = subst Keeps (sym step) (cells_kept l named (size program.composites l.machine t) (record { control = rest; held = held; memory = mem }) (used w) z h)
  kept l (CopyCells named t) rest [] mem out h step = absurd step
  kept l (CopyCells named t) rest (z ∷ []) mem out h step = absurd step
  kept l (CopyCells named t) rest (z ∷ w ∷ held) mem out h step = subst Keeps (sym step) (copy_kept l named (size program.composites l.machine t) (record { control = rest; held = held; memory = mem }) (used w) (used z) h)
  kept l (ApplyOne op kind) rest [] mem out h step = absurd step
  kept l (ApplyOne op kind) rest (z ∷ held) mem out h step = subst Keeps (sym step) (one_kept (record { control = rest; held = held; memory = mem }) (applied_to_one op kind l.machine) (used z) h)
  kept l (Change t) rest [] mem out h step = absurd step
  kept l (Change t) rest (z ∷ held) mem out h step = subst Keeps (sym step) (type_kept l t (record { control = rest; held = held; memory = mem }) z h)
  kept l (ApplyPointers op left right) rest [] mem out h step = absurd step
  kept l (ApplyPointers op left right) rest (z ∷ []) mem out h step = absurd step
  kept l (ApplyPointers op left right) rest (z ∷ w ∷ held) mem out h step = subst Keeps (sym step) (two_kept (record { control = rest; held = held; memory = mem }) (on_pointers program l op left right) (used w) (used z) h)
  kept l (Decide is_and e) rest [] mem out h step = absurd step
  kept l (Decide is_and e) rest (z ∷ held) mem out h step = subst Keeps (sym step) (decision_kept (record { control = rest; held = held; memory = mem }) (decided is_and e (record { control = rest; held = held; memory = mem })) (used z) (decided_fed is_and e (record { control = rest; held = held; memory = mem }) h))
  kept l Settle rest [] mem out h step = absurd step
  kept l Settle rest (z ∷ held) mem out h step = subst Keeps (sym step) (decision_kept (record { control = rest; held = held; memory = mem }) (settled (record { control = rest; held = held; memory = mem })) (used z) (λ t. h))
  kept l (Pick b c) rest [] mem out h step = absurd step
  kept l (Pick b c) rest (z ∷ held) mem out h step = subst Keeps (sym step) (decision_kept (record { control = rest; held = held; memory = mem }) (picked b c (record { control = rest; held = held; memory = mem })) (used z) (picked_fed b c (record { control = rest; held = held; memory = mem }) h))
  kept l Again rest [] mem out h step = absurd step
  kept l Again rest (z ∷ held) mem out h step = subst Keeps (sym step) h
  kept l Tuck rest [] mem out h step = absurd step
  kept l Tuck rest (z ∷ []) mem out h step = absurd step
  kept l Tuck rest (z ∷ w ∷ held) mem out h step = subst Keeps (sym step) h
  kept l (Increase up t) rest [] mem out h step = absurd step
  kept l (Increase up t) rest (z ∷ held) mem out h step = subst Keeps (sym step) (one_kept (record { control = rest; held = held; memory = mem }) (increased program l up t) (used z) h)
  kept l Drop rest [] mem out h step = absurd step
  kept l Drop rest (z ∷ held) mem out h step = subst Keeps (sym step) h
  kept l (Enter site t k) rest held mem out h step = enters_kept l site t k (record { control = rest; held = held; memory = mem }) held out (split (suc k) [] held (λ i. Asks rest (suc i)) h) step
  kept l (Put type) rest [] mem out h step = absurd step
  kept l (Put type) rest (z ∷ []) mem out h step = absurd step
  kept l (Put type) rest (z ∷ w ∷ held) mem out h step = subst Keeps (sym step) (put_kept l type (record { control = rest; held = held; memory = mem }) (used w) (used z) h)
  kept l (Paste base image) rest held mem out h step = subst Keeps (sym step) h
  kept l (Finish id) rest held mem out h step = subst Keeps (sym step) h
  kept l (ForHead p s) rest held mem out h step = subst Keeps (sym step) (tested_asks p.condition (ForTurn p s) (Do s ∷ ForNext p s ∷ rest) rest (length held) h (h.0, h.1, h))
  kept l (ForNext p s) rest held mem out h step = subst Keeps (sym step) (begun_asks p.next (ForHead p s ∷ rest) (length held) h.1 h)
  kept l (ForTurn p s) rest [] mem out h step = absurd step
  kept l (ForTurn p s) rest (z ∷ held) mem out h step = subst Keeps (sym step) (truth_kept p.id (Do s ∷ ForNext p s ∷ rest) rest (record { control = rest; held = held; memory = mem }) (used z) (h.0, h.1, h) h.2)
  kept l (DoTest p s) rest held mem out h step = subst Keeps (sym step) (tested_asks p.condition (DoTurn p s) (Do s ∷ DoTest p s ∷ rest) rest (length held) h (h.0, h.1, h))
  kept l (DoTurn p s) rest [] mem out h step = absurd step
  kept l (DoTurn p s) rest (z ∷ held) mem out h step = subst Keeps (sym step) (truth_kept p.id (Do s ∷ DoTest p s ∷ rest) rest (record { control = rest; held = held; memory = mem }) (used z) (h.0, h.1, h) h.2)
  kept l (Select id s) rest [] mem out h step = absurd step
  kept l (Select id s) rest (z ∷ held) mem out h step = subst Keeps (sym step) (selection_kept l id s (record { control = rest; held = held; memory = mem }) (used z) (λ v. entry_fed l (record { control = rest; held = held; memory = mem }) (selected v s rest) h.2 (selected_lands v s rest (length held) h.0 h.1 h.2)))
  kept l Switched rest held mem out h step = subst Keeps (sym step) h

  step_kept : (l : Layout) (s t : State) → IsFed s → Step program l s (Goes t) → IsFed t
  step_kept l s t h step = by_control s.control h step
    where
      by_control : (control : List Work) → Asks control (length s.held) → Step program l (record s { control = control }) (Goes t) → IsFed t
      by_control [] h step = absurd step
      by_control (work ∷ rest) h step = kept l work rest s.held s.memory (Goes t) h step

  -- ---- there is a step

  abbrev at : List Work → List Held → Memory → State
  at control held m = record { control = control; held = held; memory = m }

  left_by : (h : Held) (s : State) → WayOut [] s.control (length s.held) → (out : Outcome) × Leaves h s (exit_of [] s.control) out
  left_by h s w =
      let out = Goes (holding (handed w.exit.dying h) (record s { control = w.exit.rest; memory = died w.exit.dying s.memory })) in
      (out, subst (λ e. Leaves h s e out) (sym w.found) refl)

  jumped_by : (s : State) (j : Option Jump) → Jumps j (length s.held) → (out : Outcome) × JumpsTo s j out
  jumped_by s None h = absurd h
  jumped_by s (Some j) h = (_, refl)

  sampled_by : (l : Layout) (type : Scalar) (s : State) (r : Result Value Kind) → (out : Outcome) × SamplesAt l type s r out
  sampled_by l type s (Err kind) = (_, refl)
  sampled_by l type s (Ok v) = by_base (reached l s.memory (size_of_scalar type l.machine) v)
    where
      by_base : (base : Option ℕ) → (out : Outcome) × Samples l type s base out
      by_base None = (_, refl)
      by_base (Some base) = (Goes (holding (Usable (plain (pos 0))) s), (pos 0, zero_fits type l, refl))

  module _ (bodies : (f : ℕ) → IsTrue (is_function (base_at program.bases f)) → IsSome (function_at program.functions f)) where
    called_some : (l : Layout) (t : CType) (v : Value) (base : Option ℕ) (f : ℕ) → function_from program l t v base ≡ Ok f → IsTrue (is_function (base_at program.bases f))
    called_some l t v None f e = absurd (cc)
    called_some l t v (Some g) f e = by_test (is_function_of t (base_at program.bases g)) (is_zero (distance l g v)) refl e
      where
        of_type : (b : Option Base) → is_function_of t b ≡ true → IsTrue (is_function b)
        of_type None h = h
        of_type (Some b) h = first_true (is_func b.sort) (is_compatible b.ctype t) h
          where
            first_true : (x y : Bool) → (x && y) ≡ true → x ≡ true
            first_true true y h = refl
            first_true false y h = h

        by_test : (x y : Bool) → is_function_of t (base_at program.bases g) ≡ x → cond (x && y) (Ok g) (Err FunctionPointer) ≡ Ok f → IsTrue (is_function (base_at program.bases f))
        by_test true true h e = let same : g ≡ f = cc in subst (λ k. IsTrue (is_function (base_at program.bases k))) same (of_type (base_at program.bases g) h)
        by_test true false h e = absurd (cc)
        by_test false y h e = absurd (cc)

    entered_function : (l : Layout) (site : ℕ) (arguments : _) (s : State) (f : Option Function) → IsSome f → (out : Outcome) × EntersFunction l site arguments s f out
    entered_function l site arguments s None h = absurd (cc)
    entered_function l site arguments s (Some f) h = (_, refl)

    entered_base : (l : Layout) (site : ℕ) (arguments : _) (s : State) (r : Result ℕ Kind) → ((f : ℕ) → r ≡ Ok f → IsTrue (is_function (base_at program.bases f))) →
        (out : Outcome) × EntersBase program l site arguments s r out
    entered_base l site arguments s (Err kind) h = (_, refl)
    entered_base l site arguments s (Ok f) h = entered_function l site arguments s (function_at program.functions f) (bodies f (h f refl))

    entered_with : (l : Layout) (site : ℕ) (t : CType) (s : State) (v : Result Value Kind) (arguments : Result _ Kind) →
        (out : Outcome) × EntersWith program l site t s v arguments out
    entered_with l site t s (Err kind) arguments = (_, refl)
    entered_with l site t s (Ok v) (Err kind) = (_, refl)
    entered_with l site t s (Ok v) (Ok arguments) =
        entered_base l site arguments s (called_function program l t v) (λ f e. called_some l t v (only_base l v) f e)

    entered_by : (l : Layout) (site : ℕ) (t : CType) (k : ℕ) (s : State) (held : List Held) → Split (suc k) [] held (λ i. Asks s.control (suc i)) →
        (out : Outcome) × EntersBy program l site t s (split_held (suc k) [] held) out
    entered_by l site t k s held w = by_top w.top w.enough w.found
      where
        by_top : (top : List Held) → length top ≡ suc k + 0 → split_held (suc k) [] held ≡ Some (top, w.below) → (out : Outcome) × EntersBy program l site t s (split_held (suc k) [] held) out
        by_top [] e found = absurd (omega arith)
        by_top (f ∷ arguments) e found =
            let step = entered_with l site t (record s { held = w.below }) (used f) (used_arguments arguments) in
            (step.0, subst (λ o. EntersBy program l site t s o step.0) (sym found) step.1)

    some_step : (l : Layout) (work : Work) (rest : List Work) (held : List Held) (mem : Memory) → Asks (work ∷ rest) (length held) →
        (out : Outcome) × Does program l work held (at rest held mem) out
    some_step l (Do (Expression id e)) rest held mem h = (_, refl)
    some_step l (Do (Return id e)) rest held mem h = (_, refl)
    some_step l (Do (If id e left right)) rest held mem h = (_, refl)
    some_step l (Do (While id e body)) rest held mem h = (_, refl)
    some_step l (Do (Block bases stmts)) rest held mem h = (_, refl)
    some_step l (Do Nothing) rest held mem h = (_, refl)
    some_step l (Do (Empty id)) rest held mem h = (_, refl)
    some_step l (Do (ReturnNothing id)) rest held mem h = (_, refl)
    some_step l (Do (DoWhile w body)) rest held mem h = (_, refl)
    some_step l (Do (For w body)) rest held mem h = (_, refl)
    some_step l (Do (Switch id e body)) rest held mem h = (_, refl)
    some_step l (Do (Case value body)) rest held mem h = (_, refl)
    some_step l (Do (Label name body)) rest held mem h = (_, refl)
    some_step l (Do (Goto id name)) rest held mem h = jumped_by (at rest held mem) (jump_to name [] rest) (jump_lands name [] rest (length held) h.0 h.1 h.2)
    some_step l (Do (Break id)) rest held mem h = jumped_by (at rest held mem) (jump_behind [] rest) (behind_lands [] rest (length held) h.0 h.1 h.2)
    some_step l (Do (Continue id)) rest held mem h = jumped_by (at rest held mem) (jump_on [] rest) (on_lands [] rest (length held) h.0 h.1 h.2)
    some_step l (Do (Initialise id base cleared items)) rest held mem h = (_, refl)
    some_step l (Do (Assert id predicate)) rest held mem h = absurd h.0
    some_step l (Evaluate (Number kind n)) rest held mem h = (_, refl)
    some_step l (Evaluate (Load type q)) rest held mem h = (_, refl)
    some_step l (Evaluate (Binary op kind a b)) rest held mem h = (_, refl)
    some_step l (Evaluate (Assign type q e)) rest held mem h = (_, refl)
    some_step l (Evaluate (LoadCells t q)) rest held mem h = (_, refl)
    some_step l (Evaluate (AssignCells t q e)) rest held mem h = (_, refl)
    some_step l (Evaluate (Address t q)) rest held mem h = (_, refl)
    some_step l (Evaluate (Unary op kind e)) rest held mem h = (_, refl)
    some_step l (Evaluate (Convert t e)) rest held mem h = (_, refl)
    some_step l (Evaluate (OnPointers op left right a b)) rest held mem h = (_, refl)
    some_step l (Evaluate (Logic is_and a b)) rest held mem h = (_, refl)
    some_step l (Evaluate (Conditional t a b c)) rest held mem h = (_, refl)
    some_step l (Evaluate (Compound op t left right q e)) rest held mem h = (_, refl)
    some_step l (Evaluate (StepExpr up behind t q)) rest held mem h = (_, refl)
    some_step l (Evaluate (Comma a b)) rest held mem h = (_, refl)
    some_step l (Evaluate (Call site t q arguments)) rest held mem h = (_, refl)
    some_step l (Locate (Variable base)) rest held mem h = (_, refl)
    some_step l (Locate (Pointed e t volatile)) rest held mem h = (_, refl)
    some_step l (Locate (Temporary e t)) rest held mem h = (_, refl)
    some_step l (Locate (Member q c m)) rest held mem h = (_, refl)
    some_step l (Locate (Element q e t k end)) rest held mem h = (_, refl)
    some_step l (Locate (ElementOf e q t k end)) rest held mem h = (_, refl)
    some_step l (Fetch type) rest [] mem h = absurd h
    some_step l (Fetch type) rest (z ∷ held) mem h = (_, refl)
    some_step l (Store type) rest [] mem h = absurd h
    some_step l (Store type) rest (z ∷ []) mem h = absurd h
    some_step l (Store type) rest (z ∷ w ∷ held) mem h = (_, refl)
    some_step l (Apply op kind) rest [] mem h = absurd h
    some_step l (Apply op kind) rest (z ∷ []) mem h = absurd h
    some_step l (Apply op kind) rest (z ∷ w ∷ held) mem h = (_, refl)
    some_step l (Discard id) rest [] mem h = absurd h
    some_step l (Discard id) rest (z ∷ held) mem h = (_, refl)
    some_step l (Choose id s t) rest [] mem h = absurd h
    some_step l (Choose id s t) rest (z ∷ held) mem h = (_, refl)
    some_step l (Loop id e s) rest held mem h = (_, refl)
    some_step l (Turn id e s) rest [] mem h = absurd h
    some_step l (Turn id e s) rest (z ∷ held) mem h = (_, refl)
    some_step l (Deliver id) rest [] mem h = absurd h
    some_step l (Deliver id) rest (Usable v ∷ held) mem h = left_by (Usable v) (at rest held mem) (way_out [] rest (length held) h)
    some_step l (Deliver id) rest (Unusable kind ∷ held) mem h = (_, refl)
    some_step l (Deliver id) rest (Cells cells ∷ held) mem h = left_by (Cells cells) (at rest held mem) (way_out [] rest (length held) h)
    some_step l (Deliver id) rest (Absent ∷ held) mem h = left_by Absent (at rest held mem) (way_out [] rest (length held) h)
    some_step l (Deliver id) rest (Part cells ∷ held) mem h = left_by (Part cells) (at rest held mem) (way_out [] rest (length held) h)
    some_step l (Body stmts) rest held mem h = (_, refl)
    some_step l (Brace id result) rest held mem h = left_by (fallen result (exit_of [] rest)) (at rest held mem) (way_out [] rest (length held) h)
    some_step l (Close bases stmts) rest held mem h = (_, refl)
    some_step l (Frame function site) rest held mem h = absurd h
    some_step l Use rest [] mem h = absurd h
    some_step l Use rest (z ∷ held) mem h = (_, refl)
    some_step l AsPlace rest [] mem h = absurd h
    some_step l AsPlace rest (z ∷ held) mem h = (_, refl)
    some_step l (Reach c m) rest [] mem h = absurd h
    some_step l (Reach c m) rest (z ∷ held) mem h = (_, refl)
    some_step l (Index t k end) rest [] mem h = absurd h
    some_step l (Index t k end) rest (z ∷ []) mem h = absurd h
    some_step l (Index t k end) rest (z ∷ w ∷ held) mem h = (_, refl)
    some_step l (IndexedBy t k end) rest [] mem h = absurd h
    some_step l (IndexedBy t k end) rest (z ∷ []) mem h = absurd h
    some_step l (IndexedBy t k end) rest (z ∷ w ∷ held) mem h = (_, refl)
    some_step l (Sample type) rest [] mem h = absurd h
    some_step l (Sample type) rest (z ∷ held) mem h = sampled_by l type (at rest held mem) (used z)
    some_step l (FetchCells t) rest [] mem h = absurd h
    some_step l (FetchCells t) rest (z ∷ held) mem h = (_, refl)
    some_step l (StoreCells named t) rest [] mem h = absurd h
    some_step l (StoreCells named t) rest (z ∷ []) mem h = absurd h
    some_step l (StoreCells named t) rest (z ∷ w ∷ held) mem h = (_, refl)
    some_step l (CopyCells named t) rest [] mem h = absurd h
    some_step l (CopyCells named t) rest (z ∷ []) mem h = absurd h
    some_step l (CopyCells named t) rest (z ∷ w ∷ held) mem h = (_, refl)
    some_step l (ApplyOne op kind) rest [] mem h = absurd h
    some_step l (ApplyOne op kind) rest (z ∷ held) mem h = (_, refl)
    some_step l (Change t) rest [] mem h = absurd h
    some_step l (Change t) rest (z ∷ held) mem h = (_, refl)
    some_step l (ApplyPointers op left right) rest [] mem h = absurd h
    some_step l (ApplyPointers op left right) rest (z ∷ []) mem h = absurd h
    some_step l (ApplyPointers op left right) rest (z ∷ w ∷ held) mem h = (_, refl)
    some_step l (Decide is_and e) rest [] mem h = absurd h
    some_step l (Decide is_and e) rest (z ∷ held) mem h = (_, refl)
    some_step l Settle rest [] mem h = absurd h
    some_step l Settle rest (z ∷ held) mem h = (_, refl)
    some_step l (Pick b c) rest [] mem h = absurd h
    some_step l (Pick b c) rest (z ∷ held) mem h = (_, refl)
    some_step l Again rest [] mem h = absurd h
    some_step l Again rest (z ∷ held) mem h = (_, refl)
    some_step l Tuck rest [] mem h = absurd h
    some_step l Tuck rest (z ∷ []) mem h = absurd h
    some_step l Tuck rest (z ∷ w ∷ held) mem h = (_, refl)
    some_step l (Increase up t) rest [] mem h = absurd h
    some_step l (Increase up t) rest (z ∷ held) mem h = (_, refl)
    some_step l Drop rest [] mem h = absurd h
    some_step l Drop rest (z ∷ held) mem h = (_, refl)
    some_step l (Enter site t k) rest held mem h = entered_by l site t k (at rest held mem) held (split (suc k) [] held (λ i. Asks rest (suc i)) h)
    some_step l (Put type) rest [] mem h = absurd h
    some_step l (Put type) rest (z ∷ []) mem h = absurd h
    some_step l (Put type) rest (z ∷ w ∷ held) mem h = (_, refl)
    some_step l (Paste base image) rest held mem h = (_, refl)
    some_step l (Finish id) rest held mem h = (_, refl)
    some_step l (ForHead p s) rest held mem h = (_, refl)
    some_step l (ForNext p s) rest held mem h = (_, refl)
    some_step l (ForTurn p s) rest [] mem h = absurd h
    some_step l (ForTurn p s) rest (z ∷ held) mem h = (_, refl)
    some_step l (DoTest p s) rest held mem h = (_, refl)
    some_step l (DoTurn p s) rest [] mem h = absurd h
    some_step l (DoTurn p s) rest (z ∷ held) mem h = (_, refl)
    some_step l (Select id s) rest [] mem h = absurd h
    some_step l (Select id s) rest (z ∷ held) mem h = (_, refl)
    some_step l Switched rest held mem h = (_, refl)

    has_step : (l : Layout) (control : List Work) (held : List Held) (mem : Memory) → Asks control (length held) → (control ≡ []) ⊎ HasStep program l (at control held mem)
    has_step l [] held mem h = inl refl
    has_step l (work ∷ rest) held mem h = let s = some_step l work rest held mem h in inr (record { outcome = s.0; step = s.1 })

    -- ---- from the beginning on

    abbrev OnState : Option State → Type 0
    OnState None = Unit {0}
    OnState (Some s) = IsFed s

    begun_fed : (l : Layout) (f : Option Function) (s : State) → function_at program.functions program.entry ≡ f → entered program l f ≡ Some s → IsFed s
    begun_fed l None s is e = absurd (cc)
    begun_fed l (Some f) s is e = subst OnState e (body_asks f None [] 0 (lead program.entry f is) refl)

    all_go_on : GoesOn program
    all_go_on l s r =
        let fed : IsFed s =
        subst IsFed r.ends (kept_along program IsFed l (step_kept l) r.first r.run (begun_fed l (function_at program.functions program.entry) r.first refl r.begins) r.goes) in
        has_step l s.control s.held s.memory fed

-- functions of a program whose jumps lead somewhere, and that has no annotations
lead_at : (fs : List Function) (base : ℕ) (f : Function) → AllByRecursion IsFlowing fs → AllByRecursion IsBareFunction fs → function_at fs base ≡ Some f →
    AllLead (within_block f.body outermost) f.body
lead_at [] base f h k e = absurd (cc)
lead_at (g ∷ fs) base f h k e = by_test (lead_at fs base f h.1 k.1) (g.base == base) e
  where
    by_test : (function_at fs base ≡ Some f → AllLead (within_block f.body outermost) f.body) → (t : Bool) → cond t (Some g) (function_at fs base) ≡ Some f →
        AllLead (within_block f.body outermost) f.body
    by_test later true e =
        let same : g ≡ f = cc in subst (λ x. AllLead (within_block x.body outermost) x.body) same (all_lead (within_block g.body outermost) false g.body h.0.leads k.0.body)
    by_test later false e = later e

pub goes_on : (p : Program) → AllByRecursion IsFlowing p.functions → IsSelfContained p → GoesOn p
goes_on p flows bare = all_go_on p (λ base f e. lead_at p.functions base f flows bare.functions e) bare.bodies
