-- The bases that live are those of the scopes in progress: each step keeps it so, and runs begin so.
use Rattle.std.proofs.Common.{◌≡◌, ◌≢◌, ℕ, suc, ◌*◌, ◌==◌, Bool, true, false, cond, ◌||◌, inl, inr, IsTrue, List, [], ◌∷◌, ◌++◌, replicate, Option, None, Some, Result, Ok, Err, refl, sym, ◌∙◌, subst}
use Rattle.std.specs.Prelude.{is_some}
use Rattle.std.specs.List.{AllByRecursion}
use Rattle.c_base.proofs.Tests.{other_test}
use Rattle.c_effects.specs.Images.{pasted}
use Rattle.c_typed_stmt.specs.declared.init.ImageItem.{ImageItem}
use Rattle.c_effects.specs.Passing.{Argument, passed}
use Rattle.c_memory.specs.Values.{Bit, nowhere}
use Rattle.c_memory.specs.Memories.{Memory, loaded, stored, born, reached}
use Rattle.c_program.specs.Valid.{is_among, is_taken, IsValidFunction, OwnsObjects, IsValid}
use Rattle.c_program.specs.Flow.{AreDifferent}
use Rattle.c_machine.proofs.Living.{Lives, OnMemory, births, deaths, stored_lives, written_lives, put_lives, copied_lives, pasted_lives, passed_lives, among_append, taken_append}
use Rattle.c_machine.proofs.InScopes.{AllStand, In, InScopes, AreOwn, queued_scopes, queued_functions, queued_in, owned, all_beside, nothing_new, way_out}
use Rattle.c_machine.proofs.Leaving.{OnJump, OnEntry, goto_lands, break_lands, continue_lands, switch_lands}
use Rattle.c_base.specs.declared.kind.Kind.{Kind}
use Rattle.c_memory.specs.declared.scalar.Scalar.{Scalar}
use Rattle.c_memory.specs.Scalars.{size_of_scalar}
use Rattle.c_memory.specs.Values.{Value, Cell}
use Rattle.c_memory.specs.Layouts.{Layout}
use Rattle.c_memory.specs.Operations.{truth_of, applied_to}
use Rattle.c_types.specs.Types.{CType, Void, Integer, Pointer, Array, Composite, Function as signature, scalar_of}
use Rattle.c_types.specs.Sizes.{size}
use Rattle.c_pointers.specs.Conversions.{applied_to_one}
use Rattle.c_effects.specs.Ranges.{read, put, written, copied}
use Rattle.c_program.specs.Syntax.{Lvalue, Variable, Pointed, Temporary, Member, Element, ElementOf, Expr, Number, Load, Binary, Assign, LoadCells, AssignCells, Address, Unary, Convert, OnPointers, Logic, Conditional, Compound, Step as StepExpr, Comma, Call, Exprs, NoExpr, NextExpr, Stmt, Expression, Return, If, While, Block, Nothing, Empty, ReturnNothing, DoWhile, For, Switch, Case, Label, Goto, Break, Continue, Initialise, Assert, Done, Numbered, Item, Value as ValueItem, Content, Base, base_at, Function, function_at, Program, static_base, is_static}
use Rattle.c_machine.specs.Machine.{Held, Usable, Unusable, Cells, Absent, Part, used, Work, Do, Evaluate, Locate, Fetch, Store, Apply, Discard, Choose, Loop, Turn, Deliver, Body, Brace, Close, Frame, Use, AsPlace, Reach, Index, IndexedBy, Sample, FetchCells, StoreCells, CopyCells, ApplyOne, Change, ApplyPointers, Decide, Settle, Pick, Again, Tuck, Increase, Drop, Enter, Put, Paste, Finish, ForHead, ForNext, ForTurn, DoTest, DoTurn, Select, Switched, State, Outcome, Goes, Stops, Exit, exit_of, fallen, Leaves, Jumps as JumpsTo, enters, EntersFunction, EntersBase, EntersWith, Enters as EntersBy, Samples, SamplesAt, entering, body_of, begun, tested, called_type, Does, Step, with_value, with_memory, with_truth, with_target, with_operands, with_held, with_place, with_change, with_put, with_cells, with_copied, with_copy, with_cells_held, with_one, with_two, with_decision, decided, picked, settled, with_conversion, with_change_of_type, with_index, with_selection, entered, scopes_of, IsRun, last_of, initial_memory, imaged, image_at, first_cells}
use Rattle.c_machine.specs.Parts.{part_value, cells_read, element_place, increased, on_pointers, called_function, used_arguments, split_held}
use Rattle.c_machine.specs.Jumps.{Jump, jump_to, jump_behind, jump_on, Entry, selected}
use Rattle.c_machine.specs.Unfolding.{is_volatile, fetched_by, is_temporary, source_work, arguments_work, count, value_work, items_work, operator_work, compound_by, stepped_by}
use Rattle.c_machine.specs.Laws.{functions_in, NeverAgain, LivesInScopes}

module _ (p : Program) (owner : ℕ → ℕ) where
  abbrev Within : ℕ → List Work → Type 0
  Within f control = In p owner f control

  abbrev Whole : State → Type 0
  Whole s = InScopes p owner s.control × Lives p s.memory (scopes_of s.control)

  abbrev Keeps : Outcome → Type 0
  Keeps (Goes t) = Whole t
  Keeps (Stops kind id sites) = Unit {0}

  -- ---- what work unfolds to stands in the same scopes

  -- the first work stands where the second does
  record Extends (f : ℕ) (control rest : List Work) : Type 0 where
    within : Within f rest → Within f control
    same : scopes_of control ≡ scopes_of rest

  extended : (f : ℕ) (control rest : List Work) (held : List Held) (m : Memory) → Extends f control rest → Within f rest → Lives p m (scopes_of rest) →
      Whole (record { control = control; held = held; memory = m })
  extended f control rest held m e h k = (inr (f, e.within h), subst (Lives p m) (sym e.same) k)

  fetched_extends : (f : ℕ) (q : Lvalue) (type : Scalar) (rest : List Work) → Extends f (fetched_by p q type ∷ rest) rest
  fetched_extends f q type rest = by_test (is_volatile p q)
    where
      by_test : (t : Bool) → Extends f (cond t (Sample type) (Fetch type) ∷ rest) rest
      by_test true = record { within = λ h. h; same = refl }
      by_test false = record { within = λ h. h; same = refl }

  operator_extends : (f : ℕ) (op : _) (left right : CType) (rest : List Work) → Extends f (operator_work op left right ∷ rest) rest
  operator_extends f op Void right rest = record { within = λ h. h; same = refl }
  operator_extends f op (Integer kind) Void rest = record { within = λ h. h; same = refl }
  operator_extends f op (Integer kind) (Integer other) rest = record { within = λ h. h; same = refl }
  operator_extends f op (Integer kind) (Pointer other) rest = record { within = λ h. h; same = refl }
  operator_extends f op (Integer kind) (Array other k) rest = record { within = λ h. h; same = refl }
  operator_extends f op (Integer kind) (Composite k) rest = record { within = λ h. h; same = refl }
  operator_extends f op (Integer kind) (signature other params variadic) rest = record { within = λ h. h; same = refl }
  operator_extends f op (Pointer to) right rest = record { within = λ h. h; same = refl }
  operator_extends f op (Array of m) right rest = record { within = λ h. h; same = refl }
  operator_extends f op (Composite m) right rest = record { within = λ h. h; same = refl }
  operator_extends f op (signature result params variadic) right rest = record { within = λ h. h; same = refl }

  -- one extension behind another
  both : (f : ℕ) (a b c : List Work) → Extends f a b → Extends f b c → Extends f a c
  both f a b c e g = record { within = λ h. e.within (g.within h); same = e.same ∙ g.same }

  compound_extends : (f : ℕ) (found : Option Scalar) (op : _) (t left right : CType) (q : Lvalue) (e : Expr) (rest : List Work) →
      Extends f (compound_by p found op t left right q e rest) rest
  compound_extends f None op t left right q e rest = record { within = λ h. h; same = refl }
  compound_extends f (Some type) op t left right q e rest =
      let inner : List Work = Change t ∷ Store type ∷ rest in
      let operated = operator_extends f op left right inner in
      let fetched = fetched_extends f q type (Change left ∷ Evaluate e ∷ operator_work op left right ∷ inner) in
      record { within = λ h. fetched.within (operated.within h); same = fetched.same ∙ operated.same }

  step_extends : (f : ℕ) (found : Option Scalar) (up behind : Bool) (t : CType) (q : Lvalue) (rest : List Work) → Extends f (stepped_by p found up behind t q rest) rest
  step_extends f None up behind t q rest = record { within = λ h. h; same = refl }
  step_extends f (Some type) up true t q rest =
      let fetched = fetched_extends f q type (Tuck ∷ Increase up t ∷ Store type ∷ Drop ∷ rest) in record { within = λ h. fetched.within h; same = fetched.same }
  step_extends f (Some type) up false t q rest =
      let fetched = fetched_extends f q type (Increase up t ∷ Store type ∷ rest) in record { within = λ h. fetched.within h; same = fetched.same }

  source_extends : (f : ℕ) (named : Bool) (t : CType) (value e : Expr) (rest : List Work) → Extends f (source_work named t value e rest) rest
  source_extends f named t value (LoadCells u q) rest = by_test (is_temporary q)
    where
      by_test : (b : Bool) → Extends f (cond b (Evaluate value ∷ StoreCells named t ∷ rest) (Locate q ∷ CopyCells named t ∷ rest)) rest
      by_test true = record { within = λ h. h; same = refl }
      by_test false = record { within = λ h. h; same = refl }
  source_extends f named t value (Number kind n) rest = record { within = λ h. h; same = refl }
  source_extends f named t value (Load type q) rest = record { within = λ h. h; same = refl }
  source_extends f named t value (Binary op kind a b) rest = record { within = λ h. h; same = refl }
  source_extends f named t value (Assign type q e) rest = record { within = λ h. h; same = refl }
  source_extends f named t value (AssignCells r q e) rest = record { within = λ h. h; same = refl }
  source_extends f named t value (Address r q) rest = record { within = λ h. h; same = refl }
  source_extends f named t value (Unary op kind e) rest = record { within = λ h. h; same = refl }
  source_extends f named t value (Convert r e) rest = record { within = λ h. h; same = refl }
  source_extends f named t value (OnPointers op left right a b) rest = record { within = λ h. h; same = refl }
  source_extends f named t value (Logic is_and a b) rest = record { within = λ h. h; same = refl }
  source_extends f named t value (Conditional r a b c) rest = record { within = λ h. h; same = refl }
  source_extends f named t value (Compound op r left right q e) rest = record { within = λ h. h; same = refl }
  source_extends f named t value (StepExpr up behind r q) rest = record { within = λ h. h; same = refl }
  source_extends f named t value (Comma a b) rest = record { within = λ h. h; same = refl }
  source_extends f named t value (Call site r q arguments) rest = record { within = λ h. h; same = refl }

  value_extends : (f : ℕ) (found : Option Scalar) (t : CType) (q : Lvalue) (e : Expr) (rest : List Work) → Extends f (value_work found t q e rest) rest
  value_extends f (Some type) t q e rest = record { within = λ h. h; same = refl }
  value_extends f None t q e rest = let source = source_extends f true t e e (Drop ∷ rest) in record { within = λ h. source.within h; same = source.same }

  items_extend : (f : ℕ) (base : ℕ) (items : List Item) (rest : List Work) → Extends f (items_work base items rest) rest
  items_extend f base [] rest = record { within = λ h. h; same = refl }
  items_extend f base (ValueItem t q e ∷ more) rest =
      both f (items_work base (ValueItem t q e ∷ more) rest) (items_work base more rest) rest (value_extends f (scalar_of t) t q e (items_work base more rest)) (items_extend f base more rest)
  items_extend f base (Content image ∷ more) rest = let others = items_extend f base more rest in record { within = λ h. others.within h; same = others.same }

  arguments_extend : (f : ℕ) (arguments : Exprs) (rest : List Work) → Extends f (arguments_work arguments rest) rest
  arguments_extend f NoExpr rest = record { within = λ h. h; same = refl }
  arguments_extend f (NextExpr e more) rest = let others = arguments_extend f more rest in record { within = λ h. others.within h; same = others.same }

  begun_extends : (f : ℕ) (first : Option Numbered) (rest : List Work) → Extends f (begun first rest) rest
  begun_extends f None rest = record { within = λ h. h; same = refl }
  begun_extends f (Some first) rest = record { within = λ h. (tt, h); same = refl }

  -- ---- a step of the function f

  module _ (f : ℕ) where
    abbrev IsIn : State → Type 0
    IsIn s = Within f s.control × Lives p s.memory (scopes_of s.control)

    value_kept : (s : State) (r : Result Value Kind) → IsIn s → Keeps (with_value s r)
    value_kept s (Ok v) h = (inr (f, h.0), h.1)
    value_kept s (Err kind) h = tt

    memory_kept : (v : Value) (s : State) (r : Result Memory Kind) → IsIn s → OnMemory p (scopes_of s.control) r → Keeps (with_memory v s r)
    memory_kept v s (Ok m) h k = (inr (f, h.0), k)
    memory_kept v s (Err kind) h k = tt

    held_kept : (s : State) (r : Result Held Kind) → IsIn s → Keeps (with_held s r)
    held_kept s (Ok z) h = (inr (f, h.0), h.1)
    held_kept s (Err kind) h = tt

    change_kept : (z : Held) (s : State) (r : Result Memory Kind) → IsIn s → OnMemory p (scopes_of s.control) r → Keeps (with_change z s r)
    change_kept z s (Ok m) h k = (inr (f, h.0), k)
    change_kept z s (Err kind) h k = tt

    place_kept : (l : Layout) (type : Scalar) (s : State) (z : Held) → IsIn s → Keeps (with_place l type s z)
    place_kept l type s (Usable at) h = value_kept s (loaded l s.memory type at) h
    place_kept l type s (Unusable kind) h = tt
    place_kept l type s (Cells cells) h = tt
    place_kept l type s Absent h = tt
    place_kept l type s (Part cells) h = value_kept s (part_value l type cells) h

    target_kept : (l : Layout) (type : _) (s : State) (a b : Result Value Kind) → IsIn s → Keeps (with_target l type s a b)
    target_kept l type s (Err kind) b h = tt
    target_kept l type s (Ok at) (Err kind) h = tt
    target_kept l type s (Ok at) (Ok v) h = memory_kept v s (stored l s.memory type at v) h (stored_lives p l s.memory type at v (scopes_of s.control) h.1)

    put_kept : (l : Layout) (type : _) (s : State) (a b : Result Value Kind) → IsIn s → Keeps (with_put l type s a b)
    put_kept l type s (Err kind) b h = tt
    put_kept l type s (Ok at) (Err kind) h = tt
    put_kept l type s (Ok at) (Ok v) h = memory_kept v s (put l s.memory type at v) h (put_lives p l s.memory type at v (scopes_of s.control) h.1)

    cells_kept : (l : Layout) (named : Bool) (bytes : ℕ) (s : State) (r : Result Value Kind) (z : Held) → IsIn s → Keeps (with_cells l named bytes s r z)
    cells_kept l named bytes s (Err kind) z h = tt
    cells_kept l named bytes s (Ok at) (Cells cells) h = change_kept (Cells cells) s (written l s.memory named bytes cells at) h (written_lives p l s.memory named bytes cells at (scopes_of s.control) h.1)
    cells_kept l named bytes s (Ok at) (Usable v) h = tt
    cells_kept l named bytes s (Ok at) (Unusable kind) h = tt
    cells_kept l named bytes s (Ok at) Absent h = tt
    cells_kept l named bytes s (Ok at) (Part cells) h = tt

    copied_kept : (s : State) (r : Result (List Cell) Kind) (m : Result Memory Kind) → IsIn s → OnMemory p (scopes_of s.control) m → Keeps (with_copied s r m)
    copied_kept s (Err kind) m h k = tt
    copied_kept s (Ok cells) m h k = change_kept (Cells cells) s m h k

    copy_kept : (l : Layout) (named : Bool) (bytes : ℕ) (s : State) (a b : Result Value Kind) → IsIn s → Keeps (with_copy l named bytes s a b)
    copy_kept l named bytes s (Err kind) b h = tt
    copy_kept l named bytes s (Ok to) (Err kind) h = tt
    copy_kept l named bytes s (Ok to) (Ok source) h = copied_kept s (read l s.memory bytes source) (copied l s.memory named bytes to source) h (copied_lives p l s.memory named bytes to source (scopes_of s.control) h.1)

    cells_held_kept : (s : State) (r : Result (List Cell) Kind) → IsIn s → Keeps (with_cells_held s r)
    cells_held_kept s (Ok cells) h = (inr (f, h.0), h.1)
    cells_held_kept s (Err kind) h = tt

    one_kept : (s : State) (g : Value → Result Value Kind) (r : Result Value Kind) → IsIn s → Keeps (with_one s g r)
    one_kept s g (Err kind) h = tt
    one_kept s g (Ok v) h = value_kept s (g v) h

    two_kept : (s : State) (g : Value → Value → Result Value Kind) (a b : Result Value Kind) → IsIn s → Keeps (with_two s g a b)
    two_kept s g (Err kind) b h = tt
    two_kept s g (Ok v) (Err kind) h = tt
    two_kept s g (Ok v) (Ok w) h = value_kept s (g v w) h

    operands_kept : (l : Layout) (op : _) (kind : _) (s : State) (a b : Result Value Kind) → IsIn s → Keeps (with_operands l op kind s a b)
    operands_kept l op kind s (Err k) b h = tt
    operands_kept l op kind s (Ok a) (Err k) h = tt
    operands_kept l op kind s (Ok a) (Ok b) h = value_kept s (applied_to op kind l.machine a b) h

    conversion_kept : (l : Layout) (t : CType) (s : State) (r : Result Value Kind) → IsIn s → Keeps (with_conversion l t s r)
    conversion_kept l t s (Err kind) h = tt
    conversion_kept l t s (Ok v) h = (inr (f, h.0), h.1)

    type_kept : (l : Layout) (t : CType) (s : State) (z : Held) → IsIn s → Keeps (with_change_of_type l t s z)
    type_kept l Void s z h = (inr (f, h.0), h.1)
    type_kept l (Integer kind) s z h = conversion_kept l (Integer kind) s (used z) h
    type_kept l (Pointer to) s z h = conversion_kept l (Pointer to) s (used z) h
    type_kept l (Array of n) s z h = (inr (f, h.0), h.1)
    type_kept l (Composite n) s z h = (inr (f, h.0), h.1)
    type_kept l (signature result params variadic) s z h = (inr (f, h.0), h.1)

    decision_kept : (s : State) (next : Bool → State) (r : Result Value Kind) → ((t : Bool) → Whole (next t)) → Keeps (with_decision s next r)
    decision_kept s next (Err kind) h = tt
    decision_kept s next (Ok v) h = h (truth_of v)

    decided_in : (is_and : Bool) (e : Expr) (s : State) → IsIn s → (t : Bool) → Whole (decided is_and e s t)
    decided_in true e s h true = (inr (f, h.0), h.1)
    decided_in true e s h false = (inr (f, h.0), h.1)
    decided_in false e s h true = (inr (f, h.0), h.1)
    decided_in false e s h false = (inr (f, h.0), h.1)

    picked_in : (b c : Expr) (s : State) → IsIn s → (t : Bool) → Whole (picked b c s t)
    picked_in b c s h true = (inr (f, h.0), h.1)
    picked_in b c s h false = (inr (f, h.0), h.1)

    index_kept : (program : Program) (l : Layout) (t : CType) (k : ℕ) (end : Bool) (s : State) (z : Held) (r : Result Value Kind) → IsIn s →
        Keeps (with_index program l t k end s z r)
    index_kept program l t k end s z (Err kind) h = tt
    index_kept program l t k end s z (Ok i) h = held_kept s (element_place program l t k end z i) h

    tested_kept : (condition : Option Expr) (turn : Work) (on rest : List Work) (held : List Held) (m : Memory) →
        Within f (turn ∷ rest) → Lives p m (scopes_of (turn ∷ rest)) → Within f on → Lives p m (scopes_of on) →
        Whole (record { control = tested condition turn on rest; held = held; memory = m })
    tested_kept None turn on rest held m h k on_in on_lives = (inr (f, on_in), on_lives)
    tested_kept (Some e) turn on rest held m h k on_in on_lives = (inr (f, h), k)

    truth_kept : (id : ℕ) (a b : List Work) (s : State) (r : Result Value Kind) → Whole (record s { control = a }) → Whole (record s { control = b }) →
        Keeps (with_truth id a b s r)
    truth_kept id a b s (Ok v) h k = by_truth (truth_of v)
      where
        by_truth : (t : Bool) → Whole (record s { control = cond t a b })
        by_truth true = h
        by_truth false = k
    truth_kept id a b s (Err kind) h k = tt

    entry_kept : (l : Layout) (s : State) (e : Option Entry) → IsIn s → OnEntry p owner f (scopes_of s.control) e → Whole (enters l s e)
    entry_kept l s None h k = (inr (f, h.0), h.1)
    entry_kept l s (Some e) h k = (inr (f, k.0), subst (Lives p (born l e.born s.memory)) (sym k.1) (births p l s.memory e.born (scopes_of s.control) h.1))

    selection_kept : (l : Layout) (id : ℕ) (body : Stmt) (s : State) (r : Result Value Kind) → ((v : _) → Whole (enters l s (selected v body s.control))) →
        Keeps (with_selection l id body s r)
    selection_kept l id body s (Ok v) h = h v.number
    selection_kept l id body s (Err kind) h = tt

    jumps_kept : (s : State) (j : Option Jump) (out : Outcome) → Lives p s.memory (scopes_of s.control) → OnJump p owner f (scopes_of s.control) j → JumpsTo s j out → Keeps out
    jumps_kept s None out k h step = absurd step
    jumps_kept s (Some j) out k h step =
        subst Keeps (sym step) (inr (f, h.stands), deaths p s.memory j.dying (scopes_of j.control) h.new (subst (Lives p s.memory) (sym h.same) k))

    leaves_kept : (z : Held) (s : State) (out : Outcome) → IsIn s → Leaves z s (exit_of [] s.control) out → Keeps out
    leaves_kept z s out h step = by_exit (exit_of [] s.control) refl step
      where
        by_exit : (e : Option Exit) → exit_of [] s.control ≡ e → Leaves z s e out → Keeps out
        by_exit None found step = absurd step
        by_exit (Some e) found step =
            let w = way_out p owner f [] s.control e (nothing_new p owner (scopes_of s.control)) h.0 found in
            subst Keeps (sym step) (w.scoped, deaths p s.memory e.dying (scopes_of e.rest) w.new (subst (Lives p s.memory) (sym w.same) h.1))

    sample_kept : (l : Layout) (type : Scalar) (s : State) (r : Result Value Kind) (out : Outcome) → IsIn s → SamplesAt l type s r out → Keeps out
    sample_kept l type s (Err kind) out h step = subst Keeps (sym step) tt
    sample_kept l type s (Ok v) out h step = by_base (reached l s.memory (size_of_scalar type l.machine) v) step
      where
        by_base : (base : Option ℕ) → Samples l type s base out → Keeps out
        by_base None step = subst Keeps (sym step) tt
        by_base (Some base) (n, fits, step) = subst Keeps (sym step) (inr (f, h.0), h.1)

  -- ---- calls

  -- what a function needs to be entered
  record MayEnter (f : Function) : Type 0 where
    valid : IsValidFunction p f
    owns : OwnsObjects owner f

  other_functions : (f : ℕ) (fs : List ℕ) → AllByRecursion (λ g. f ≢ g) fs → is_among fs f ≡ false
  other_functions f [] h = refl
  other_functions f (g ∷ fs) h = rw (other_test f g h.0) (other_functions f fs h.1)

  body_kept : (f : Function) (site : Option ℕ) (rest : List Work) (held : List Held) (m : Memory) → MayEnter f → AreDifferent (f.base ∷ functions_in rest) → InScopes p owner rest →
      Lives p m ((f.formals ++ f.locals) ++ scopes_of rest) → Whole (record { control = body_of f site rest; held = held; memory = m })
  body_kept f site rest held m may different outer lives = (
    inr (f.base, queued_in p owner f.base f.body behind all (all, (own, tt, (refl, outer)))),
    subst (Lives p m) (sym (queued_scopes f.body behind)) lives,
  )
    where
      objects : List ℕ
      objects = f.formals ++ f.locals

      behind : List Work
      behind = Body f.body ∷ Brace f.end f.result ∷ Close objects Done ∷ Frame f.base site ∷ rest

      apart : (base : ℕ) → is_among (scopes_of rest) base ≡ true → owner base ≢ f.base
      apart base among is =
          let theirs : is_among (functions_in rest) (owner base) ≡ true = owned p owner rest base outer among in
          let same : is_among (functions_in rest) f.base ≡ true = rw is at theirs in
          let none = other_functions f.base (functions_in rest) different.0 in
          absurd (cc)

      all : AllStand p owner f.base (objects ++ scopes_of rest) f.body
      all = all_beside p owner f.base objects (scopes_of rest) f.body apart may.valid.body may.owns.blocks

      new : (base : ℕ) → IsTrue (is_among objects base) → is_taken p (scopes_of rest) base ≡ false
      new base among = by_test (is_among (scopes_of rest) base) refl
        where
          by_test : (t : Bool) → is_among (scopes_of rest) base ≡ t → is_taken p (scopes_of rest) base ≡ false
          by_test true e = absurd (apart base e (may.owns.scope base among))
          by_test false e = rw e (may.valid.objects.each base among)

      own : AreOwn p owner f.base (scopes_of rest) objects
      own = (record { each = new }, may.owns.scope)

  body_functions : (f : Function) (site : Option ℕ) (rest : List Work) → functions_in (body_of f site rest) ≡ f.base ∷ functions_in rest
  body_functions f site rest = queued_functions f.body (Body f.body ∷ Brace f.end f.result ∷ Close (f.formals ++ f.locals) Done ∷ Frame f.base site ∷ rest)

  or_true : (a b : Bool) → a ≡ true → (a || b) ≡ true
  or_true true b h = refl
  or_true false b h = absurd (cc)

  -- the formals live when the arguments are passed
  formals_live : (f : Function) (outer : List ℕ) (base : ℕ) → IsTrue (is_among f.formals base) → is_taken p ((f.formals ++ f.locals) ++ outer) base ≡ true
  formals_live f outer base among =
      taken_append p (f.formals ++ f.locals) outer base ∙
      or_true (is_among (f.formals ++ f.locals) base) (is_taken p outer base) (among_append f.formals f.locals base ∙ or_true (is_among f.formals base) (is_among f.locals base) among)

  -- no function in progress is entered again by what comes out
  abbrev IsFirst : Outcome → Type 0
  IsFirst (Goes t) = AreDifferent (functions_in t.control)
  IsFirst (Stops kind id sites) = Unit {0}

  module _ (may : (base : ℕ) (f : Function) → function_at p.functions base ≡ Some f → MayEnter f) where
    function_kept : (l : Layout) (site : ℕ) (arguments : List Argument) (s : State) (base : ℕ) (f : Option Function) (out : Outcome) → function_at p.functions base ≡ f → Whole s →
        IsFirst out → EntersFunction l site arguments s f out → Keeps out
    function_kept l site arguments s base None out e h first step = absurd step
    function_kept l site arguments s base (Some f) out e h first step =
        let objects : List ℕ = f.formals ++ f.locals in
        let entered : IsFirst (Goes (entering l site f arguments s)) = subst IsFirst step first in
        let different : AreDifferent (f.base ∷ functions_in s.control) = subst AreDifferent (body_functions f (Some site) s.control) entered in
        let lives : Lives p (born l objects s.memory) (objects ++ scopes_of s.control) = births p l s.memory objects (scopes_of s.control) h.1 in
        subst Keeps (sym step) (body_kept f (Some site) s.control s.held (passed l f.formals arguments (born l objects s.memory)) (may base f e) different h.0
        (passed_lives p l f.formals arguments (born l objects s.memory) (objects ++ scopes_of s.control) (formals_live f (scopes_of s.control)) lives))

    base_kept : (l : Layout) (site : ℕ) (arguments : List Argument) (s : State) (r : Result ℕ Kind) (out : Outcome) → Whole s → IsFirst out →
        EntersBase p l site arguments s r out → Keeps out
    base_kept l site arguments s (Err kind) out h first step = subst Keeps (sym step) tt
    base_kept l site arguments s (Ok g) out h first step = function_kept l site arguments s g (function_at p.functions g) out refl h first step

    with_kept : (l : Layout) (site : ℕ) (t : CType) (s : State) (v : Result Value Kind) (arguments : Result (List Argument) Kind) (out : Outcome) → Whole s → IsFirst out →
        EntersWith p l site t s v arguments out → Keeps out
    with_kept l site t s (Err kind) arguments out h first step = subst Keeps (sym step) tt
    with_kept l site t s (Ok v) (Err kind) out h first step = subst Keeps (sym step) tt
    with_kept l site t s (Ok v) (Ok arguments) out h first step = base_kept l site arguments s (called_function p l t v) out h first step

    enters_kept : (l : Layout) (site : ℕ) (t : CType) (s : State) (o : Option (List Held × List Held)) (out : Outcome) → Whole s → IsFirst out →
        EntersBy p l site t s o out → Keeps out
    enters_kept l site t s None out h first step = absurd step
    enters_kept l site t s (Some ([], below)) out h first step = absurd step
    enters_kept l site t s (Some (f ∷ arguments, below)) out h first step = with_kept l site t (record s { held = below }) (used f) (used_arguments arguments) out h first step

    abbrev at : List Work → List Held → Memory → State
    at control held m = record { control = control; held = held; memory = m }

    kept : (l : Layout) (f : ℕ) (work : Work) (rest : List Work) (held : List Held) (mem : Memory) (out : Outcome) → Within f (work ∷ rest) → Lives p mem (scopes_of (work ∷ rest)) →
        IsFirst out → Does p l work held (at rest held mem) out → Keeps out
    kept l f (Do (Expression id e)) rest held mem out h k first step = subst Keeps (sym step) (inr (f, h.1), k)
    kept l f (Do (Return id e)) rest held mem out h k first step = subst Keeps (sym step) (inr (f, h.1), k)
    kept l f (Do (If id e left right)) rest held mem out h k first step = subst Keeps (sym step) (inr (f, (h.0.0, h.0.1, h.1)), k)
    kept l f (Do (While id e body)) rest held mem out h k first step = subst Keeps (sym step) (inr (f, h), k)
    kept l f (Do (Block bases stmts)) rest held mem out h k first step = subst Keeps (sym step) (inr (f, queued_in p owner f stmts (Close bases stmts ∷ rest) h.0.1 (h.0.0, h.0.1, h.1)), subst (Lives p (born l bases mem)) (sym (queued_scopes stmts (Close bases stmts ∷ rest))) (births p l mem bases (scopes_of rest) k))
    kept l f (Do Nothing) rest held mem out h k first step = subst Keeps (sym step) (inr (f, h.1), k)
    kept l f (Do (Empty id)) rest held mem out h k first step = subst Keeps (sym step) (inr (f, h.1), k)
    kept l f (Do (ReturnNothing id)) rest held mem out h k first step = subst Keeps (sym step) (inr (f, h.1), k)
    kept l f (Do (DoWhile w body)) rest held mem out h k first step = subst Keeps (sym step) (inr (f, (h.0, h)), k)
    kept l f (Do (For w body)) rest held mem out h k first step = subst Keeps (sym step) (extended f (begun w.first (ForHead w body ∷ rest)) (ForHead w body ∷ rest) held mem (begun_extends f w.first (ForHead w body ∷ rest)) h k)
    kept l f (Do (Switch id e body)) rest held mem out h k first step = subst Keeps (sym step) (inr (f, h), k)
    kept l f (Do (Case value body)) rest held mem out h k first step = subst Keeps (sym step) (inr (f, h), k)
    kept l f (Do (Label name body)) rest held mem out h k first step = subst Keeps (sym step) (inr (f, h), k)
    kept l f (Do (Initialise id base cleared items)) rest held mem out h k first step = subst Keeps (sym step) (extended f (items_work base items (Finish id ∷ rest)) (Finish id ∷ rest) held (pasted l base cleared mem) (items_extend f base items (Finish id ∷ rest)) h.1 (pasted_lives p l base cleared mem (scopes_of rest) k))
    kept l f (Do (Goto id name)) rest held mem out h k first step = jumps_kept f (at rest held mem) (jump_to name [] rest) out k (goto_lands p owner f name [] rest (nothing_new p owner (scopes_of rest)) h.1) step
    kept l f (Do (Break id)) rest held mem out h k first step = jumps_kept f (at rest held mem) (jump_behind [] rest) out k (break_lands p owner f [] rest (nothing_new p owner (scopes_of rest)) h.1) step
    kept l f (Do (Continue id)) rest held mem out h k first step = jumps_kept f (at rest held mem) (jump_on [] rest) out k (continue_lands p owner f [] rest (nothing_new p owner (scopes_of rest)) h.1) step
    kept l f (Do (Assert id predicate)) rest held mem out h k first step = absurd step
    kept l f (Evaluate (Number kind n)) rest held mem out h k first step = subst Keeps (sym step) (inr (f, h), k)
    kept l f (Evaluate (Load type q)) rest held mem out h k first step = subst Keeps (sym step) (extended f (Locate q ∷ fetched_by p q type ∷ rest) (fetched_by p q type ∷ rest) held mem (record { within = λ x. x; same = refl }) ((fetched_extends f q type rest).within h) (subst (Lives p mem) (sym (fetched_extends f q type rest).same) k))
    kept l f (Evaluate (Binary op kind a b)) rest held mem out h k first step = subst Keeps (sym step) (inr (f, h), k)
    kept l f (Evaluate (Assign type q e)) rest held mem out h k first step = subst Keeps (sym step) (inr (f, h), k)
    kept l f (Evaluate (LoadCells t q)) rest held mem out h k first step = subst Keeps (sym step) (inr (f, h), k)
    kept l f (Evaluate (AssignCells t q e)) rest held mem out h k first step = subst Keeps (sym step) (extended f (Locate q ∷ source_work false t e e rest) (source_work false t e e rest) held mem (record { within = λ x. x; same = refl }) ((source_extends f false t e e rest).within h) (subst (Lives p mem) (sym (source_extends f false t e e rest).same) k))
    kept l f (Evaluate (Address t q)) rest held mem out h k first step = subst Keeps (sym step) (inr (f, h), k)
    kept l f (Evaluate (Unary op kind e)) rest held mem out h k first step = subst Keeps (sym step) (inr (f, h), k)
    kept l f (Evaluate (Convert t e)) rest held mem out h k first step = subst Keeps (sym step) (inr (f, h), k)
    kept l f (Evaluate (OnPointers op left right a b)) rest held mem out h k first step = subst Keeps (sym step) (inr (f, h), k)
    kept l f (Evaluate (Logic is_and a b)) rest held mem out h k first step = subst Keeps (sym step) (inr (f, h), k)
    kept l f (Evaluate (Conditional t a b c)) rest held mem out h k first step = subst Keeps (sym step) (inr (f, h), k)
    kept l f (Evaluate (Compound op t left right q e)) rest held mem out h k first step = subst Keeps (sym step) (extended f (compound_by p (scalar_of t) op t left right q e rest) rest held mem (compound_extends f (scalar_of t) op t left right q e rest) h k)
    kept l f (Evaluate (StepExpr up behind t q)) rest held mem out h k first step = subst Keeps (sym step) (extended f (stepped_by p (scalar_of t) up behind t q rest) rest held mem (step_extends f (scalar_of t) up behind t q rest) h k)
    kept l f (Evaluate (Comma a b)) rest held mem out h k first step = subst Keeps (sym step) (inr (f, h), k)
    kept l f (Evaluate (Call site t q arguments)) rest held mem out h k first step = subst Keeps (sym step) (extended f (Locate q ∷ arguments_work arguments (Enter site (called_type p q) (count arguments) ∷ rest)) (Enter site (called_type p q) (count arguments) ∷ rest) held mem (record { within = λ x. (arguments_extend f arguments (Enter site (called_type p q) (count arguments) ∷ rest)).within x; same = (arguments_extend f arguments (Enter site (called_type p q) (count arguments) ∷ rest)).same }) h k)
    kept l f (Locate (Variable base)) rest held mem out h k first step = subst Keeps (sym step) (inr (f, h), k)
    kept l f (Locate (Pointed e t volatile)) rest held mem out h k first step = subst Keeps (sym step) (inr (f, h), k)
    kept l f (Locate (Temporary e t)) rest held mem out h k first step = subst Keeps (sym step) (inr (f, h), k)
    kept l f (Locate (Member q c m)) rest held mem out h k first step = subst Keeps (sym step) (inr (f, h), k)
    kept l f (Locate (Element q e t n end)) rest held mem out h k first step = subst Keeps (sym step) (inr (f, h), k)
    kept l f (Locate (ElementOf e q t n end)) rest held mem out h k first step = subst Keeps (sym step) (inr (f, h), k)
    kept l f (Fetch type) rest [] mem out h k first step = absurd step
    kept l f (Fetch type) rest (z ∷ held) mem out h k first step = subst Keeps (sym step) (place_kept f l type (at rest held mem) z (h, k))
    kept l f (Store type) rest [] mem out h k first step = absurd step
    kept l f (Store type) rest (z ∷ []) mem out h k first step = absurd step
    kept l f (Store type) rest (z ∷ w ∷ held) mem out h k first step = subst Keeps (sym step) (target_kept f l type (at rest held mem) (used w) (used z) (h, k))
    kept l f (Apply op kind) rest [] mem out h k first step = absurd step
    kept l f (Apply op kind) rest (z ∷ []) mem out h k first step = absurd step
    kept l f (Apply op kind) rest (z ∷ w ∷ held) mem out h k first step = subst Keeps (sym step) (operands_kept f l op kind (at rest held mem) (used w) (used z) (h, k))
    kept l f (Discard id) rest [] mem out h k first step = absurd step
    kept l f (Discard id) rest (z ∷ held) mem out h k first step = subst Keeps (sym step) (inr (f, h), k)
    kept l f (Choose id s t) rest [] mem out h k first step = absurd step
    kept l f (Choose id s t) rest (z ∷ held) mem out h k first step = subst Keeps (sym step) (truth_kept f id (Do s ∷ rest) (Do t ∷ rest) (at rest held mem) (used z) (inr (f, (h.0, h.2)), k) (inr (f, (h.1, h.2)), k))
    kept l f (Loop id e s) rest held mem out h k first step = subst Keeps (sym step) (inr (f, h), k)
    kept l f (Turn id e s) rest [] mem out h k first step = absurd step
    kept l f (Turn id e s) rest (z ∷ held) mem out h k first step = subst Keeps (sym step) (truth_kept f id (Do s ∷ Loop id e s ∷ rest) rest (at rest held mem) (used z) (inr (f, (h.0, h)), k) (inr (f, h.1), k))
    kept l f (Deliver id) rest [] mem out h k first step = absurd step
    kept l f (Deliver id) rest (Usable v ∷ held) mem out h k first step = leaves_kept f (Usable v) (at rest held mem) out (h, k) step
    kept l f (Deliver id) rest (Unusable kind ∷ held) mem out h k first step = subst Keeps (sym step) tt
    kept l f (Deliver id) rest (Cells cells ∷ held) mem out h k first step = leaves_kept f (Cells cells) (at rest held mem) out (h, k) step
    kept l f (Deliver id) rest (Absent ∷ held) mem out h k first step = leaves_kept f Absent (at rest held mem) out (h, k) step
    kept l f (Deliver id) rest (Part cells ∷ held) mem out h k first step = leaves_kept f (Part cells) (at rest held mem) out (h, k) step
    kept l f (Body stmts) rest held mem out h k first step = subst Keeps (sym step) (inr (f, h.1), k)
    kept l f (Brace id result) rest held mem out h k first step = leaves_kept f (fallen result (exit_of [] rest)) (at rest held mem) out (h, k) step
    kept l f (Close bases stmts) rest held mem out h k first step = subst Keeps (sym step) (inr (f, h.2), deaths p mem bases (scopes_of rest) h.0.0 k)
    kept l f (Frame function site) rest held mem out h k first step = absurd step
    kept l f Use rest [] mem out h k first step = absurd step
    kept l f Use rest (z ∷ held) mem out h k first step = subst Keeps (sym step) (value_kept f (at rest held mem) (used z) (h, k))
    kept l f AsPlace rest [] mem out h k first step = absurd step
    kept l f AsPlace rest (z ∷ held) mem out h k first step = subst Keeps (sym step) (inr (f, h), k)
    kept l f (Reach c m) rest [] mem out h k first step = absurd step
    kept l f (Reach c m) rest (z ∷ held) mem out h k first step = subst Keeps (sym step) (inr (f, h), k)
    kept l f (Index t n end) rest [] mem out h k first step = absurd step
    kept l f (Index t n end) rest (z ∷ []) mem out h k first step = absurd step
    kept l f (Index t n end) rest (z ∷ w ∷ held) mem out h k first step = subst Keeps (sym step) (index_kept f p l t n end (at rest held mem) w (used z) (h, k))
    kept l f (IndexedBy t n end) rest [] mem out h k first step = absurd step
    kept l f (IndexedBy t n end) rest (z ∷ []) mem out h k first step = absurd step
    kept l f (IndexedBy t n end) rest (z ∷ w ∷ held) mem out h k first step = subst Keeps (sym step) (index_kept f p l t n end (at rest held mem) z (used w) (h, k))
    kept l f (Sample type) rest [] mem out h k first step = absurd step
    kept l f (Sample type) rest (z ∷ held) mem out h k first step = sample_kept f l type (at rest held mem) (used z) out (h, k) step
    kept l f (FetchCells t) rest [] mem out h k first step = absurd step
    kept l f (FetchCells t) rest (z ∷ held) mem out h k first step = subst Keeps (sym step) (cells_held_kept f (at rest held mem) (cells_read p l mem t z) (h, k))
    kept l f (StoreCells named t) rest [] mem out h k first step = absurd step
    kept l f (StoreCells named t) rest (z ∷ []) mem out h k first step = absurd step
    kept l f (StoreCells named t) rest (z ∷ w ∷ held) mem out h k first step = subst Keeps (sym step) (cells_kept f l named (size p.composites l.machine t) (at rest held mem) (used w) z (h, k))
    kept l f (CopyCells named t) rest [] mem out h k first step = absurd step
    kept l f (CopyCells named t) rest (z ∷ []) mem out h k first step = absurd step
    kept l f (CopyCells named t) rest (z ∷ w ∷ held) mem out h k first step = subst Keeps (sym step) (copy_kept f l named (size p.composites l.machine t) (at rest held mem) (used w) (used z) (h, k))
    kept l f (ApplyOne op kind) rest [] mem out h k first step = absurd step
    kept l f (ApplyOne op kind) rest (z ∷ held) mem out h k first step = subst Keeps (sym step) (one_kept f (at rest held mem) (applied_to_one op kind l.machine) (used z) (h, k))
    kept l f (Change t) rest [] mem out h k first step = absurd step
    kept l f (Change t) rest (z ∷ held) mem out h k first step = subst Keeps (sym step) (type_kept f l t (at rest held mem) z (h, k))
    kept l f (ApplyPointers op left right) rest [] mem out h k first step = absurd step
    kept l f (ApplyPointers op left right) rest (z ∷ []) mem out h k first step = absurd step
    kept l f (ApplyPointers op left right) rest (z ∷ w ∷ held) mem out h k first step = subst Keeps (sym step) (two_kept f (at rest held mem) (on_pointers p l op left right) (used w) (used z) (h, k))
    kept l f (Decide is_and e) rest [] mem out h k first step = absurd step
    kept l f (Decide is_and e) rest (z ∷ held) mem out h k first step = subst Keeps (sym step) (decision_kept f (at rest held mem) (decided is_and e (at rest held mem)) (used z) (decided_in f is_and e (at rest held mem) (h, k)))
    kept l f Settle rest [] mem out h k first step = absurd step
    kept l f Settle rest (z ∷ held) mem out h k first step = subst Keeps (sym step) (decision_kept f (at rest held mem) (settled (at rest held mem)) (used z) (λ t. (inr (f, h), k)))
    kept l f (Pick b c) rest [] mem out h k first step = absurd step
    kept l f (Pick b c) rest (z ∷ held) mem out h k first step = subst Keeps (sym step) (decision_kept f (at rest held mem) (picked b c (at rest held mem)) (used z) (picked_in f b c (at rest held mem) (h, k)))
    kept l f Again rest [] mem out h k first step = absurd step
    kept l f Again rest (z ∷ held) mem out h k first step = subst Keeps (sym step) (inr (f, h), k)
    kept l f Tuck rest [] mem out h k first step = absurd step
    kept l f Tuck rest (z ∷ []) mem out h k first step = absurd step
    kept l f Tuck rest (z ∷ w ∷ held) mem out h k first step = subst Keeps (sym step) (inr (f, h), k)
    kept l f (Increase up t) rest [] mem out h k first step = absurd step
    kept l f (Increase up t) rest (z ∷ held) mem out h k first step = subst Keeps (sym step) (one_kept f (at rest held mem) (increased p l up t) (used z) (h, k))
    kept l f Drop rest [] mem out h k first step = absurd step
    kept l f Drop rest (z ∷ held) mem out h k first step = subst Keeps (sym step) (inr (f, h), k)
    kept l f (Enter site t n) rest held mem out h k first step = enters_kept l site t (at rest held mem) (split_held (suc n) [] held) out (inr (f, h), k) first step
    kept l f (Put type) rest [] mem out h k first step = absurd step
    kept l f (Put type) rest (z ∷ []) mem out h k first step = absurd step
    kept l f (Put type) rest (z ∷ w ∷ held) mem out h k first step = subst Keeps (sym step) (put_kept f l type (at rest held mem) (used w) (used z) (h, k))
    kept l f (Paste base image) rest held mem out h k first step = subst Keeps (sym step) (inr (f, h), pasted_lives p l base image mem (scopes_of rest) k)
    kept l f (Finish id) rest held mem out h k first step = subst Keeps (sym step) (inr (f, h), k)
    kept l f (ForHead w s) rest held mem out h k first step = subst Keeps (sym step) (tested_kept f w.condition (ForTurn w s) (Do s ∷ ForNext w s ∷ rest) rest held mem h k (h.0, h) k)
    kept l f (ForNext w s) rest held mem out h k first step = subst Keeps (sym step) (extended f (begun w.next (ForHead w s ∷ rest)) (ForHead w s ∷ rest) held mem (begun_extends f w.next (ForHead w s ∷ rest)) h k)
    kept l f (ForTurn w s) rest [] mem out h k first step = absurd step
    kept l f (ForTurn w s) rest (z ∷ held) mem out h k first step = subst Keeps (sym step) (truth_kept f w.id (Do s ∷ ForNext w s ∷ rest) rest (at rest held mem) (used z) (inr (f, (h.0, h)), k) (inr (f, h.1), k))
    kept l f (DoTest w s) rest held mem out h k first step = subst Keeps (sym step) (tested_kept f w.condition (DoTurn w s) (Do s ∷ DoTest w s ∷ rest) rest held mem h k (h.0, h) k)
    kept l f (DoTurn w s) rest [] mem out h k first step = absurd step
    kept l f (DoTurn w s) rest (z ∷ held) mem out h k first step = subst Keeps (sym step) (truth_kept f w.id (Do s ∷ DoTest w s ∷ rest) rest (at rest held mem) (used z) (inr (f, (h.0, h)), k) (inr (f, h.1), k))
    kept l f (Select id s) rest [] mem out h k first step = absurd step
    kept l f (Select id s) rest (z ∷ held) mem out h k first step = subst Keeps (sym step) (selection_kept f l id s (at rest held mem) (used z) (λ v. entry_kept f l (at rest held mem) (selected v s rest) (h.1, k) (switch_lands p owner f v s rest h.0 h.1)))
    kept l f Switched rest held mem out h k first step = subst Keeps (sym step) (inr (f, h), k)

    step_kept : (l : Layout) (s t : State) → Whole s → AreDifferent (functions_in t.control) → Step p l s (Goes t) → Whole t
    step_kept l s t h first step = by_control s.control h.0 h.1 step
      where
        by_control : (control : List Work) → InScopes p owner control → Lives p s.memory (scopes_of control) → Step p l (record s { control = control }) (Goes t) → Whole t
        by_control [] h k step = absurd step
        by_control (work ∷ rest) (inl e) k step = absurd (cc)
        by_control (work ∷ rest) (inr (f, h)) k step = kept l f work rest s.held s.memory (Goes t) h k first step

    along : (l : Layout) (s : State) (ts : List State) → Whole s → NeverAgain ts → IsRun p l s ts → Whole (last_of s ts)
    along l s [] h first run = h
    along l s (t ∷ ts) h first run = along l t ts (step_kept l s t h first.0 run.0) first.1 run.1

    -- ---- from the beginning on

    some_imaged : (l : Layout) (image : Option (List ImageItem)) (cells : Option (List Cell)) → is_some (imaged l image cells) ≡ is_some cells
    some_imaged l None cells = refl
    some_imaged l (Some image) None = refl
    some_imaged l (Some image) (Some cells) = refl

    first_lives : (l : Layout) → Lives p (initial_memory p l) []
    first_lives l base = some_imaged l (image_at (base_at p.bases base)) (first_cells (base_at p.bases base)) ∙ by_base (base_at p.bases base)
      where
        by_sort : (t : Bool) (cells : List Cell) → is_some (cond t (Some cells) None) ≡ t
        by_sort true cells = refl
        by_sort false cells = refl

        by_base : (b : Option Base) → is_some (first_cells b) ≡ static_base b
        by_base None = refl
        by_base (Some b) = by_sort (is_static b.sort) (replicate (8 * b.size) (Bit false nowhere 0))

    abbrev OnState : Option State → Type 0
    OnState None = Unit {0}
    OnState (Some s) = Whole s

    begins : (l : Layout) (found : Option Function) (s : State) → function_at p.functions p.entry ≡ found → entered p l found ≡ Some s → Whole s
    begins l None s is e = absurd (cc)
    begins l (Some f) s is e =
        let objects : List ℕ = f.formals ++ f.locals in
        subst OnState e (body_kept f None [] [] (born l objects (initial_memory p l)) (may p.entry f is) (tt, tt) (inl refl)
        (births p l (initial_memory p l) objects [] (first_lives l)))

    all_live : LivesInScopes p
    all_live l s r never = (subst Whole r.ends (along l r.first r.run (begins l (function_at p.functions p.entry) r.first refl r.begins) never r.goes)).1

may_enter : (p : Program) (owner : ℕ → ℕ) (fs : List Function) (base : ℕ) (f : Function) → AllByRecursion (IsValidFunction p) fs → AllByRecursion (OwnsObjects owner) fs →
    function_at fs base ≡ Some f → MayEnter p owner f
may_enter p owner [] base f h k e = absurd (cc)
may_enter p owner (g ∷ fs) base f h k e = by_test (may_enter p owner fs base f h.1 k.1) (g.base == base) e
  where
    by_test : (function_at fs base ≡ Some f → MayEnter p owner f) → (t : Bool) → cond t (Some g) (function_at fs base) ≡ Some f → MayEnter p owner f
    by_test later true e = let same : g ≡ f = cc in subst (MayEnter p owner) same (record { valid = h.0; owns = k.0 })
    by_test later false e = later e

pub lives_in_scopes : (p : Program) → IsValid p → LivesInScopes p
lives_in_scopes p v = all_live p v.owner (λ base f e. may_enter p v.owner p.functions base f v.functions v.owned e)
