-- Each step stays in the segments of work and holds what they use, or stops at their place; and runs begin so.
use Rattle.std.proofs.Common.{◌≡◌, ℕ, zero, suc, ◌==◌, Bool, true, false, cond, ◌&&◌, ◌||◌, ◌+◌, inl, inr, IsTrue, List, [], ◌∷◌, ◌++◌, Option, None, Some, Result, Ok, Err, refl, sym, ◌∙◌, subst, arith}
use Rattle.std.specs.Prelude.{find}
use Rattle.std.specs.FinSet.{empty, contains, contains-empty, contains-insert, len}
use Rattle.std.specs.Ordering.{nat_cmp}
use Rattle.std.specs.Cmp.{nat_cmp_total, unsigned_tied}
use Rattle.std.proofs.lemmas.List.Elements.{Contains-append_left, Contains-append_right}
use Rattle.c_base.proofs.Tests.{test_same}
use Rattle.c_base.specs.declared.kind.Kind.{Kind}
use Rattle.c_base.specs.declared.kind.Kind.TheVariants.{FunctionPointer}
use Rattle.c_base.specs.Operators.{is_zero}
use Rattle.c_memory.specs.declared.scalar.Scalar.{Scalar}
use Rattle.c_memory.specs.Scalars.{size_of_scalar}
use Rattle.c_memory.specs.Values.{Value, Cell, only}
use Rattle.c_memory.specs.Layouts.{Layout}
use Rattle.c_memory.specs.Memories.{Memory, address_of, loaded, stored, reached}
use Rattle.c_memory.specs.Operations.{truth_of, applied_to}
use Rattle.c_types.specs.Types.{CType, Void, Integer, Pointer, Array, Composite, Function as signature, scalar_of}
use Rattle.c_types.specs.Sizes.{size}
use Rattle.c_pointers.specs.Conversions.{applied_to_one}
use Rattle.c_pointers.specs.Addresses.{only_base, distance}
use Rattle.c_effects.specs.Passing.{Argument}
use Rattle.c_effects.specs.Ranges.{read, put, written, copied}
use Rattle.c_program.specs.Syntax.{Lvalue, Variable, Pointed, Temporary, Member, Element, ElementOf, Expr, Number, Load, Binary, Assign, LoadCells, AssignCells, Address, Unary, Convert, OnPointers, Logic, Conditional, Compound, Step as StepExpr, Comma, Call, Exprs, NoExpr, NextExpr, Stmt, Expression, Return, If, While, Block, Nothing, Empty, ReturnNothing, DoWhile, For, Switch, Case, Label, Goto, Break, Continue, Initialise, Assert, Done, Numbered, Item, Value as ValueItem, Content, base_at, Function, function_at, Program}
use Rattle.c_program.specs.StaticCalls.{is_function_of}
use Rattle.c_program.specs.Numbered.{all_numbers}
use Rattle.c_machine.specs.Machine.{Held, Usable, Unusable, Cells, Absent, Part, used, Work, Do, Evaluate, Locate, Fetch, Store, Apply, Discard, Choose, Loop, Turn, Deliver, Body, Brace, Close, Frame, Use, AsPlace, Reach, Index, IndexedBy, Sample, FetchCells, StoreCells, CopyCells, ApplyOne, Change, ApplyPointers, Decide, Settle, Pick, Again, Tuck, Increase, Drop, Enter, Put, Paste, Finish, ForHead, ForNext, ForTurn, DoTest, DoTurn, Select, Switched, queued, State, Outcome, Goes, Stops, Exit, exit_of, fallen, Leaves, Jumps as JumpsTo, enters, EntersFunction, EntersBase, EntersWith, Enters as EntersBy, Samples, SamplesAt, body_of, begun, tested, called_type, Does, Step, with_value, with_memory, with_truth, with_target, with_operands, with_held, with_place, with_change, with_put, with_cells, with_copied, with_copy, with_cells_held, with_one, with_two, with_decision, decided, picked, settled, with_conversion, with_change_of_type, with_index, with_selection, entered, sites_of, statement_in}
use Rattle.c_machine.specs.Parts.{part_value, cells_read, element_place, increased, on_pointers, function_from, called_function, used_arguments, split_held}
use Rattle.c_machine.specs.Jumps.{Jump, jump_to, jump_behind, jump_on, Entry, selected}
use Rattle.c_machine.specs.Unfolding.{is_volatile, fetched_by, is_temporary, source_work, arguments_work, count, value_work, items_work, operator_work, compound_by, stepped_by}
use Rattle.machine_places.specs.Places.{HasCall}
use Rattle.machine_places.proofs.Belonging.{all_of, OfItems as OfAnyItems, OfPart as OfAnyPart, OfCondition as OfAnyCondition, CallsAmong}
use Rattle.machine_places.proofs.Segments.{IsNumber, IsCall, OfExpr, OfPlace, AllOf, Popped, Twice, Called, IsFound, IsEntering, Known as KnownAny, In as InAny, At as AtAny, Framed as FramedAny, Whole as WholeAny, at_in, queued_at, exits, behind_exits}
use Rattle.machine_places.proofs.Landing.{OnJump, OnEntry, goto_lands, break_lands, continue_lands, switch_lands}

module _ (p : Program) (l : Layout) where
  abbrev In : Function → List Work → List Held → Type 0
  In f control held = InAny p l f control held

  abbrev At : Function → List Work → List Held → Type 0
  At f control held = AtAny p l f control held

  abbrev Known : Function → Type 0
  Known f = KnownAny p l f

  abbrev Whole : State → Type 0
  Whole s = WholeAny p l s.control s.held

  -- the work goes on with one value more
  abbrev Pushed : Function → List Work → List Held → Type 0
  Pushed f rest held = (v : Held) → In f rest (v ∷ held)

  -- a step goes on in segments, or stops at the statement and the call sites
  abbrev pub Keeps : ℕ → List ℕ → Outcome → Type 0
  Keeps n w (Goes t) = Whole t
  Keeps n w (Stops kind id sites) = (id ≡ n) × (sites ≡ w)

  -- ---- what work unfolds to belongs to the function

  fetched_in : (f : Function) (q : Lvalue) (type : Scalar) (rest : List Work) (held : List Held) → Popped held (λ below. Pushed f rest below) → In f (fetched_by p q type ∷ rest) held
  fetched_in f q type rest held h = by_test (is_volatile p q)
    where
      by_test : (t : Bool) → In f (cond t (Sample type) (Fetch type) ∷ rest) held
      by_test true = h
      by_test false = h

  operator_in : (f : Function) (op : _) (left right : CType) (rest : List Work) (held : List Held) → Twice held (λ below. Pushed f rest below) →
      In f (operator_work op left right ∷ rest) held
  operator_in f op Void right rest held h = h
  operator_in f op (Integer kind) Void rest held h = h
  operator_in f op (Integer kind) (Integer other) rest held h = h
  operator_in f op (Integer kind) (Pointer other) rest held h = h
  operator_in f op (Integer kind) (Array other k) rest held h = h
  operator_in f op (Integer kind) (Composite k) rest held h = h
  operator_in f op (Integer kind) (signature other params variadic) rest held h = h
  operator_in f op (Pointer to) right rest held h = h
  operator_in f op (Array of m) right rest held h = h
  operator_in f op (Composite m) right rest held h = h
  operator_in f op (signature result params variadic) right rest held h = h

  compound_in : (f : Function) (found : Option Scalar) (op : _) (t left right : CType) (q : Lvalue) (e : Expr) (rest : List Work) (held : List Held) → OfPlace f q → OfExpr f e →
      Pushed f rest held → In f (compound_by p found op t left right q e rest) held
  compound_in f None op t left right q e rest held place value h = (value, h)
  compound_in f (Some type) op t left right q e rest held place value h =
      let inner : List Work = Change t ∷ Store type ∷ rest in
      let operated : List Work = Change left ∷ Evaluate e ∷ operator_work op left right ∷ inner in
      (place, λ v is a b. fetched_in f q type operated (a ∷ b ∷ held) (λ c d. (value, λ g. operator_in f op left right inner (g ∷ d ∷ b ∷ held) (λ x y. h))))

  step_in : (f : Function) (found : Option Scalar) (up behind : Bool) (t : CType) (q : Lvalue) (rest : List Work) (held : List Held) → OfPlace f q → Pushed f rest held →
      In f (stepped_by p found up behind t q rest) held
  step_in f None up behind t q rest held place h = (place, λ v is. h v)
  step_in f (Some type) up true t q rest held place h =
      (place, λ v is a b. fetched_in f q type (Tuck ∷ Increase up t ∷ Store type ∷ Drop ∷ rest) (a ∷ b ∷ held) (λ c u v w x y. h w))
  step_in f (Some type) up false t q rest held place h =
      (place, λ v is a b. fetched_in f q type (Increase up t ∷ Store type ∷ rest) (a ∷ b ∷ held) (λ c x. h))

  source_in : (f : Function) (named : Bool) (t : CType) (value e : Expr) (rest : List Work) (to : Held) (held : List Held) → OfExpr f value → OfExpr f e → Pushed f rest held →
      In f (source_work named t value e rest) (to ∷ held)
  source_in f named t value (LoadCells u q) rest to held v k h = by_test (is_temporary q)
    where
      by_test : (b : Bool) → In f (cond b (Evaluate value ∷ StoreCells named t ∷ rest) (Locate q ∷ CopyCells named t ∷ rest)) (to ∷ held)
      by_test true = (v, λ x. h)
      by_test false = (k, λ x is. h)
  source_in f named t value (Number kind n) rest to held v k h = (v, λ x. h)
  source_in f named t value (Load type q) rest to held v k h = (v, λ x. h)
  source_in f named t value (Binary op kind a b) rest to held v k h = (v, λ x. h)
  source_in f named t value (Assign type q e) rest to held v k h = (v, λ x. h)
  source_in f named t value (AssignCells r q e) rest to held v k h = (v, λ x. h)
  source_in f named t value (Address r q) rest to held v k h = (v, λ x. h)
  source_in f named t value (Unary op kind e) rest to held v k h = (v, λ x. h)
  source_in f named t value (Convert r e) rest to held v k h = (v, λ x. h)
  source_in f named t value (OnPointers op left right a b) rest to held v k h = (v, λ x. h)
  source_in f named t value (Logic is_and a b) rest to held v k h = (v, λ x. h)
  source_in f named t value (Conditional r a b c) rest to held v k h = (v, λ x. h)
  source_in f named t value (Compound op r left right q e) rest to held v k h = (v, λ x. h)
  source_in f named t value (StepExpr up behind r q) rest to held v k h = (v, λ x. h)
  source_in f named t value (Comma a b) rest to held v k h = (v, λ x. h)
  source_in f named t value (Call site r q arguments) rest to held v k h = (v, λ x. h)

  value_in : (f : Function) (found : Option Scalar) (t : CType) (q : Lvalue) (e : Expr) (rest : List Work) (held : List Held) → OfPlace f q → OfExpr f e → In f rest held →
      In f (value_work found t q e rest) held
  value_in f (Some type) t q e rest held place value h = (place, λ v is. (value, λ w x. h))
  value_in f None t q e rest held place value h = (place, λ v is. source_in f true t e e (Drop ∷ rest) v held value value (λ x. h))

  items_in : (f : Function) (base : ℕ) (items : List Item) (rest : List Work) (held : List Held) → OfAnyItems (IsNumber f) (IsCall f) items → In f rest held →
      In f (items_work base items rest) held
  items_in f base [] rest held k h = h
  items_in f base (ValueItem t q e ∷ more) rest held k h = value_in f (scalar_of t) t q e (items_work base more rest) held k.0 k.1 (items_in f base more rest held k.2 h)
  items_in f base (Content image ∷ more) rest held k h = items_in f base more rest held k h

  -- the arguments are held above what is called, so many of them
  abbrev AreAbove : ℕ → List Held → Held → List Held → Type 0
  AreAbove n above callee held = (last : List Held) → (arguments : List Held) × (split_held (suc n) last above ≡ Some (callee ∷ arguments, held))

  entering : (f : Function) (site : ℕ) (t : CType) (n : ℕ) (rest : List Work) (above : List Held) (callee : Held) (held : List Held) → AreAbove n above callee held →
      IsEntering p l f site t callee → Pushed f rest held → In f (Enter site t n ∷ rest) above
  entering f site t n rest above callee held over call h =
      let split = over [] in
      subst (λ found. Called found (λ found below. IsEntering p l f site t found × Pushed f rest below)) (sym split.1) (call, h)

  arguments_in : (f : Function) (site : ℕ) (t : CType) (arguments : Exprs) (n : ℕ) (rest : List Work) (above : List Held) (callee : Held) (held : List Held) →
      CallsAmong (IsNumber f) (IsCall f) arguments → AreAbove n above callee held → IsEntering p l f site t callee → Pushed f rest held →
      In f (arguments_work arguments (Enter site t (count arguments + n) ∷ rest)) above
  arguments_in f site t NoExpr n rest above callee held k over call h =
      subst (λ all. In f (Enter site t all ∷ rest) above) none_more (entering f site t n rest above callee held over call h)
    where
      none_more : n ≡ count NoExpr + n
      none_more = omega arith
  arguments_in f site t (NextExpr e more) n rest above callee held k over call h = (
    k.0,
    λ v. subst (λ all. In f (arguments_work more (Enter site t all ∷ rest)) (v ∷ above)) (more_of (count more) n)
        (arguments_in f site t more (suc n) rest (v ∷ above) callee held k.1 (λ last. over (v ∷ last)) call h),
  )
    where
      more_of : (m n : ℕ) → m + suc n ≡ suc m + n
      more_of m n = omega arith

  call_in : (f : Function) (site : ℕ) (t : CType) (q : Lvalue) (arguments : Exprs) (rest : List Work) (callee : Held) (held : List Held) →
      CallsAmong (IsNumber f) (IsCall f) arguments → IsEntering p l f site t callee → Pushed f rest held →
      In f (arguments_work arguments (Enter site t (count arguments) ∷ rest)) (callee ∷ held)
  call_in f site t q arguments rest callee held k call h =
      subst (λ all. In f (arguments_work arguments (Enter site t all ∷ rest)) (callee ∷ held)) (none_of (count arguments))
      (arguments_in f site t arguments 0 rest (callee ∷ held) callee held k (λ last. (last, refl)) call h)
    where
      none_of : (m : ℕ) → m + 0 ≡ m
      none_of m = omega arith

  begun_in : (f : Function) (first : Option Numbered) (rest : List Work) (held : List Held) → OfAnyPart (IsNumber f) (IsCall f) first → At f rest held → In f (begun first rest) held
  begun_in f None rest held k h = at_in p l f rest held h
  begun_in f (Some first) rest held k h = (k, h)

  tested_in : (f : Function) (condition : Option Expr) (turn : Work) (on rest : List Work) (held : List Held) → OfAnyCondition (IsNumber f) (IsCall f) condition →
      Pushed f (turn ∷ rest) held → In f on held → In f (tested condition turn on rest) held
  tested_in f None turn on rest held k h there = there
  tested_in f (Some e) turn on rest held k h there = (k, h)

  -- ---- a step of the function f

  module _ (f : Function) (known : Known f) where
    abbrev IsIn : State → Type 0
    IsIn s = Pushed f s.control s.held

    abbrev Stays : State → Outcome → Type 0
    Stays s out = Keeps (statement_in s.control) (sites_of s.control) out

    value_kept : (s : State) (r : Result Value Kind) → IsIn s → Stays s (with_value s r)
    value_kept s (Ok v) h = inr (f, known, h (Usable v))
    value_kept s (Err kind) h = (refl, refl)

    memory_kept : (v : Value) (s : State) (r : Result Memory Kind) → IsIn s → Stays s (with_memory v s r)
    memory_kept v s (Ok m) h = inr (f, known, h (Usable v))
    memory_kept v s (Err kind) h = (refl, refl)

    held_kept : (s : State) (r : Result Held Kind) → IsIn s → Stays s (with_held s r)
    held_kept s (Ok z) h = inr (f, known, h z)
    held_kept s (Err kind) h = (refl, refl)

    change_kept : (z : Held) (s : State) (r : Result Memory Kind) → IsIn s → Stays s (with_change z s r)
    change_kept z s (Ok m) h = inr (f, known, h z)
    change_kept z s (Err kind) h = (refl, refl)

    place_kept : (type : Scalar) (s : State) (z : Held) → IsIn s → Stays s (with_place l type s z)
    place_kept type s (Usable at) h = value_kept s (loaded l s.memory type at) h
    place_kept type s (Unusable kind) h = (refl, refl)
    place_kept type s (Cells cells) h = (refl, refl)
    place_kept type s Absent h = (refl, refl)
    place_kept type s (Part cells) h = value_kept s (part_value l type cells) h

    target_kept : (type : _) (s : State) (a b : Result Value Kind) → IsIn s → Stays s (with_target l type s a b)
    target_kept type s (Err kind) b h = (refl, refl)
    target_kept type s (Ok at) (Err kind) h = (refl, refl)
    target_kept type s (Ok at) (Ok v) h = memory_kept v s (stored l s.memory type at v) h

    put_kept : (type : _) (s : State) (a b : Result Value Kind) → IsIn s → Stays s (with_put l type s a b)
    put_kept type s (Err kind) b h = (refl, refl)
    put_kept type s (Ok at) (Err kind) h = (refl, refl)
    put_kept type s (Ok at) (Ok v) h = memory_kept v s (put l s.memory type at v) h

    cells_kept : (named : Bool) (bytes : ℕ) (s : State) (r : Result Value Kind) (z : Held) → IsIn s → Stays s (with_cells l named bytes s r z)
    cells_kept named bytes s (Err kind) z h = (refl, refl)
    cells_kept named bytes s (Ok at) (Cells cells) h = change_kept (Cells cells) s (written l s.memory named bytes cells at) h
    cells_kept named bytes s (Ok at) (Usable v) h = (refl, refl)
    cells_kept named bytes s (Ok at) (Unusable kind) h = (refl, refl)
    cells_kept named bytes s (Ok at) Absent h = (refl, refl)
    cells_kept named bytes s (Ok at) (Part cells) h = (refl, refl)

    copied_kept : (s : State) (r : Result (List Cell) Kind) (m : Result Memory Kind) → IsIn s → Stays s (with_copied s r m)
    copied_kept s (Err kind) m h = (refl, refl)
    copied_kept s (Ok cells) m h = change_kept (Cells cells) s m h

    copy_kept : (named : Bool) (bytes : ℕ) (s : State) (a b : Result Value Kind) → IsIn s → Stays s (with_copy l named bytes s a b)
    copy_kept named bytes s (Err kind) b h = (refl, refl)
    copy_kept named bytes s (Ok to) (Err kind) h = (refl, refl)
    copy_kept named bytes s (Ok to) (Ok source) h = copied_kept s (read l s.memory bytes source) (copied l s.memory named bytes to source) h

    cells_held_kept : (s : State) (r : Result (List Cell) Kind) → IsIn s → Stays s (with_cells_held s r)
    cells_held_kept s (Ok cells) h = inr (f, known, h (Cells cells))
    cells_held_kept s (Err kind) h = (refl, refl)

    one_kept : (s : State) (g : Value → Result Value Kind) (r : Result Value Kind) → IsIn s → Stays s (with_one s g r)
    one_kept s g (Err kind) h = (refl, refl)
    one_kept s g (Ok v) h = value_kept s (g v) h

    two_kept : (s : State) (g : Value → Value → Result Value Kind) (a b : Result Value Kind) → IsIn s → Stays s (with_two s g a b)
    two_kept s g (Err kind) b h = (refl, refl)
    two_kept s g (Ok v) (Err kind) h = (refl, refl)
    two_kept s g (Ok v) (Ok w) h = value_kept s (g v w) h

    operands_kept : (op : _) (kind : _) (s : State) (a b : Result Value Kind) → IsIn s → Stays s (with_operands l op kind s a b)
    operands_kept op kind s (Err k) b h = (refl, refl)
    operands_kept op kind s (Ok a) (Err k) h = (refl, refl)
    operands_kept op kind s (Ok a) (Ok b) h = value_kept s (applied_to op kind l.machine a b) h

    conversion_kept : (t : CType) (s : State) (r : Result Value Kind) → IsIn s → Stays s (with_conversion l t s r)
    conversion_kept t s (Err kind) h = (refl, refl)
    conversion_kept t s (Ok v) h = inr (f, known, h _)

    type_kept : (t : CType) (s : State) (z : Held) → IsIn s → Stays s (with_change_of_type l t s z)
    type_kept Void s z h = inr (f, known, h Absent)
    type_kept (Integer kind) s z h = conversion_kept (Integer kind) s (used z) h
    type_kept (Pointer to) s z h = conversion_kept (Pointer to) s (used z) h
    type_kept (Array of n) s z h = inr (f, known, h z)
    type_kept (Composite n) s z h = inr (f, known, h z)
    type_kept (signature result params variadic) s z h = inr (f, known, h z)

    decision_kept : (s : State) (next : Bool → State) (r : Result Value Kind) → ((t : Bool) → Whole (next t)) → Stays s (with_decision s next r)
    decision_kept s next (Err kind) h = (refl, refl)
    decision_kept s next (Ok v) h = h (truth_of v)

    decided_in : (is_and : Bool) (e : Expr) (s : State) → OfExpr f e → IsIn s → (t : Bool) → Whole (decided is_and e s t)
    decided_in true e s k h true = inr (f, known, (k, λ v u. h u))
    decided_in true e s k h false = inr (f, known, h _)
    decided_in false e s k h true = inr (f, known, h _)
    decided_in false e s k h false = inr (f, known, (k, λ v u. h u))

    picked_in : (b c : Expr) (s : State) → OfExpr f b → OfExpr f c → IsIn s → (t : Bool) → Whole (picked b c s t)
    picked_in b c s k m h true = inr (f, known, (k, h))
    picked_in b c s k m h false = inr (f, known, (m, h))

    index_kept : (t : CType) (k : ℕ) (end : Bool) (s : State) (z : Held) (r : Result Value Kind) → IsIn s → Stays s (with_index p l t k end s z r)
    index_kept t k end s z (Err kind) h = (refl, refl)
    index_kept t k end s z (Ok i) h = held_kept s (element_place p l t k end z i) h

    truth_kept : (id : ℕ) (a b : List Work) (s : State) (r : Result Value Kind) → In f a s.held → In f b s.held → Keeps id (sites_of s.control) (with_truth id a b s r)
    truth_kept id a b s (Ok v) h k = by_truth (truth_of v)
      where
        by_truth : (t : Bool) → Whole (record s { control = cond t a b })
        by_truth true = inr (f, known, h)
        by_truth false = inr (f, known, k)
    truth_kept id a b s (Err kind) h k = (refl, refl)

    entry_kept : (s : State) (e : Option Entry) → At f s.control s.held → OnEntry p l s.held f e → Whole (enters l s e)
    entry_kept s None h k = inr (f, known, at_in p l f s.control s.held h)
    entry_kept s (Some e) h k = inr (f, known, at_in p l f e.control s.held k)

    selection_kept : (id : ℕ) (body : Stmt) (s : State) (r : Result Value Kind) → ((v : _) → Whole (enters l s (selected v body s.control))) →
        Keeps id (sites_of s.control) (with_selection l id body s r)
    selection_kept id body s (Ok v) h = h v.number
    selection_kept id body s (Err kind) h = (refl, refl)

    jumps_kept : (n : ℕ) (w : List ℕ) (s : State) (j : Option Jump) (out : Outcome) → OnJump p l s.held f j → JumpsTo s j out → Keeps n w out
    jumps_kept n w s None out h step = absurd step
    jumps_kept n w s (Some j) out h step = subst (Keeps n w) (sym step) (inr (f, known, at_in p l f j.control s.held h))

    leaves_kept : (n : ℕ) (w : List ℕ) (z : Held) (s : State) (out : Outcome) → ((e : Exit) → exit_of [] s.control ≡ Some e → (v : Held) → WholeAny p l e.rest (v ∷ s.held)) →
        Leaves z s (exit_of [] s.control) out → Keeps n w out
    leaves_kept n w z s out h step = by_exit (exit_of [] s.control) refl step
      where
        by_exit : (e : Option Exit) → exit_of [] s.control ≡ e → Leaves z s e out → Keeps n w out
        by_exit None found step = absurd step
        by_exit (Some e) found step = subst (Keeps n w) (sym step) (h e found _)

    sample_kept : (type : Scalar) (s : State) (r : Result Value Kind) (out : Outcome) → IsIn s → SamplesAt l type s r out → Stays s out
    sample_kept type s (Err kind) out h step = subst (Stays s) (sym step) (refl, refl)
    sample_kept type s (Ok v) out h step = by_base (reached l s.memory (size_of_scalar type l.machine) v) step
      where
        by_base : (base : Option ℕ) → Samples l type s base out → Stays s out
        by_base None step = subst (Stays s) (sym step) (refl, refl)
        by_base (Some base) (n, fits, step) = subst (Stays s) (sym step) (inr (f, known, h _))

  -- ---- calls

  has_base : (fs : List Function) (base : ℕ) (f : Function) → function_at fs base ≡ Some f → f.base ≡ base
  has_base [] base f e = absurd (cc)
  has_base (g ∷ fs) base f e = by_test (has_base fs base f) (g.base == base) refl e
    where
      by_test : (function_at fs base ≡ Some f → f.base ≡ base) → (t : Bool) → (g.base == base) ≡ t → cond t (Some g) (function_at fs base) ≡ Some f → f.base ≡ base
      by_test later true same e = let found : g ≡ f = cc in subst (λ x. x.base ≡ base) found (test_same g.base base same)
      by_test later false same e = later e

  known_by : (base : ℕ) (f : Function) → function_at p.functions base ≡ Some f → Known f
  known_by base f e = subst (λ b. function_at p.functions b ≡ Some f) (sym (has_base p.functions base f e)) e

  -- what a call enters has the type that it calls
  called_fits : (t : CType) (v : Value) (found : Option ℕ) (base : ℕ) → function_from p l t v found ≡ Ok base → IsTrue (is_function_of t (base_at p.bases base))
  called_fits t v None base e = absurd (cc)
  called_fits t v (Some g) base e = by_test (is_function_of t (base_at p.bases g)) (is_zero (distance l g v)) refl e
    where
      by_test : (a b : Bool) → is_function_of t (base_at p.bases g) ≡ a → cond (a && b) (Ok g) (Err FunctionPointer) ≡ Ok base → IsTrue (is_function_of t (base_at p.bases base))
      by_test true true same e = let found : g ≡ base = cc in subst (λ x. IsTrue (is_function_of t (base_at p.bases x))) found same
      by_test true false same e = absurd (cc)
      by_test false b same e = absurd (cc)

  -- a call of what was found enters it
  or-false : (b : Bool) → (b || false) ≡ b
  or-false true = refl
  or-false false = refl

  only_has : (base other : ℕ) → contains (only base) other ≡ (other == base)
  only_has base other = rw (contains-insert nat_cmp_total empty base other, contains-empty nat_cmp other, unsigned_tied other base) (or-false (other == base))

  is_only : (g base : ℕ) → IsTrue (contains (only base) g) → base ≡ g
  is_only g base h = sym (test_same g base (sym (only_has base g) ∙ h))

  found_only : (base g : ℕ) (bases : List ℕ) → find (contains (address_of l base).provenance) bases ≡ Some g → base ≡ g
  found_only base g [] e = absurd (cc)
  found_only base g (b ∷ bases) e = by_test (found_only base g bases) (contains (address_of l base).provenance b) refl e
    where
      by_test : (find (contains (address_of l base).provenance) bases ≡ Some g → base ≡ g) → (t : Bool) → contains (address_of l base).provenance b ≡ t →
          cond t (Some b) (find (contains (address_of l base).provenance) bases) ≡ Some g → base ≡ g
      by_test later true is e = let same : b ≡ g = cc in subst (λ x. base ≡ x) same (is_only b base is)
      by_test later false is e = later e

  from_only : (t : CType) (v : Value) (found : Option ℕ) (g : ℕ) → function_from p l t v found ≡ Ok g → found ≡ Some g
  from_only t v None g e = absurd (cc)
  from_only t v (Some b) g e = by_test (is_function_of t (base_at p.bases b) && is_zero (distance l b v)) e
    where
      by_test : (t : Bool) → cond t (Ok b) (Err FunctionPointer) ≡ Ok g → Some b ≡ Some g
      by_test true e = let same : b ≡ g = cc in rw same refl
      by_test false e = absurd (cc)

  only_of : (v : Value) (g : ℕ) → only_base l v ≡ Some g → find (contains v.provenance) l.bases ≡ Some g
  only_of v g e = by_test (len v.provenance == 1) e
    where
      by_test : (t : Bool) → cond t (find (contains v.provenance) l.bases) None ≡ Some g → find (contains v.provenance) l.bases ≡ Some g
      by_test true e = e
      by_test false e = absurd (cc)

  -- a direct call enters the function that it names
  enters_named : (t : CType) (base g : ℕ) (callee : Held) (v : Value) → callee ≡ Usable (address_of l base) → used callee ≡ Ok v → called_function p l t v ≡ Ok g → base ≡ g
  enters_named t base g callee v is uses e =
      let at : used (Usable (address_of l base)) ≡ Ok v = subst (λ h. used h ≡ Ok v) is uses in
      let same : address_of l base ≡ v = cc in
      let only : only_base l v ≡ Some g = from_only t v (only_base l v) g e in
      found_only base g l.bases (subst (λ x. find (contains x.provenance) l.bases ≡ Some g) (sym same) (only_of v g only))

  -- a function's body, before its frame
  body_in : (f : Function) (site : Option ℕ) (rest : List Work) (held : List Held) → FramedAny p l f (Frame f.base site ∷ rest) held → In f (body_of f site rest) held
  body_in f site rest held h =
      let behind : List Work = Body f.body ∷ Brace f.end f.result ∷ Close (f.formals ++ f.locals) Done ∷ Frame f.base site ∷ rest in
      at_in p l f (queued f.body behind) held
      (queued_at p l f f.body behind held all (all, (Contains-append_right (all_numbers f.body) (f.end ∷ []) f.end (zero, omega arith, refl), (refl, h))))
    where
      all : AllOf f f.body
      all = all_of (IsNumber f) (IsCall f) f.body (λ n c. Contains-append_left (all_numbers f.body) (f.end ∷ []) n c) (λ c k. k)

  module _ (f : Function) (known : Known f) where
    function_kept : (site : ℕ) (t : CType) (arguments : List Argument) (s : State) (base : ℕ) (g : Option Function) (out : Outcome) → function_at p.functions base ≡ g →
        HasCall p f site base → Pushed f s.control s.held → EntersFunction l site arguments s g out → Stays f known s out
    function_kept site t arguments s base None out e call h step = absurd step
    function_kept site t arguments s base (Some g) out e call h step =
        let same : g.base ≡ base = has_base p.functions base g e in
        let called : HasCall p f site g.base = subst (HasCall p f site) (sym same) call in
        subst (Stays f known s) (sym step) (inr (g, known_by base g e, body_in g (Some site) s.control s.held (refl, (f, known, called, h))))

    base_kept : (site : ℕ) (t : CType) (callee : Held) (v : Value) (arguments : List Argument) (s : State) (r : Result ℕ Kind) (out : Outcome) → called_function p l t v ≡ r →
        used callee ≡ Ok v → IsEntering p l f site t callee → Pushed f s.control s.held → EntersBase p l site arguments s r out → Stays f known s out
    base_kept site t callee v arguments s (Err kind) out e uses call h step = subst (Stays f known s) (sym step) (refl, refl)
    base_kept site t callee v arguments s (Ok g) out e uses call h step =
        let fits : IsTrue (is_function_of t (base_at p.bases g)) = called_fits t v (only_base l v) g e in
        let called : HasCall p f site g = record {
          called = call.place;
          stands = call.stands;
          fits = subst (λ type. IsTrue (is_function_of type (base_at p.bases g))) call.typed fits;
          direct = λ base is. enters_named t base g callee v (found_at is call.found) uses e;
        } in
        function_kept site t arguments s g (function_at p.functions g) out refl called h step
      where
        found_at : {q : Lvalue} {base : ℕ} → q ≡ Variable base → IsFound p l q callee → callee ≡ Usable (address_of l base)
        found_at {q} {base} is found = subst (λ x. IsFound p l x callee) is found

    with_kept : (site : ℕ) (t : CType) (s : State) (callee : Held) (v : Result Value Kind) (arguments : Result (List Argument) Kind) (out : Outcome) → used callee ≡ v →
        IsEntering p l f site t callee → Pushed f s.control s.held → EntersWith p l site t s v arguments out → Stays f known s out
    with_kept site t s callee (Err kind) arguments out uses call h step = subst (Stays f known s) (sym step) (refl, refl)
    with_kept site t s callee (Ok v) (Err kind) out uses call h step = subst (Stays f known s) (sym step) (refl, refl)
    with_kept site t s callee (Ok v) (Ok arguments) out uses call h step = base_kept site t callee v arguments s (called_function p l t v) out refl uses call h step

    enters_kept : (site : ℕ) (t : CType) (s : State) (o : Option (List Held × List Held)) (out : Outcome) →
        Called o (λ callee below. IsEntering p l f site t callee × Pushed f s.control below) → EntersBy p l site t s o out → Stays f known s out
    enters_kept site t s None out h step = absurd step
    enters_kept site t s (Some ([], below)) out h step = absurd step
    enters_kept site t s (Some (z ∷ arguments, below)) out h step =
        with_kept site t (record s { held = below }) z (used z) (used_arguments arguments) out refl h.0 h.1 step

    abbrev at : List Work → List Held → Memory → State
    at control held m = record { control = control; held = held; memory = m }

    kept : (work : Work) (rest : List Work) (held : List Held) (mem : Memory) (out : Outcome) → In f (work ∷ rest) held →
        Does p l work held (at rest held mem) out → Stays f known (at (work ∷ rest) held mem) out
    kept (Do (Expression id e)) rest held mem out h step = subst (Keeps _ _) (sym step) (inr (f, known, (h.0.1, λ v. (h.0.0, h.1))))
    kept (Do (Return id e)) rest held mem out h step = subst (Keeps _ _) (sym step) (inr (f, known, (h.0.1, λ v. (h.0.0, h.1))))
    kept (Do (If id e s t)) rest held mem out h step = subst (Keeps _ _) (sym step) (inr (f, known, (h.0.1, λ v. ((h.0.0, h.0.2, h.0.3), h.1))))
    kept (Do (While id e s)) rest held mem out h step = subst (Keeps _ _) (sym step) (inr (f, known, h))
    kept (Do (Block bases stmts)) rest held mem out h step = subst (Keeps _ _) (sym step) (inr (f, known, at_in p l f (queued stmts (Close bases stmts ∷ rest)) held (queued_at p l f stmts (Close bases stmts ∷ rest) held h.0 h)))
    kept (Do Nothing) rest held mem out h step = subst (Keeps _ _) (sym step) (inr (f, known, at_in p l f rest held h.1))
    kept (Do (Empty id)) rest held mem out h step = subst (Keeps _ _) (sym step) (inr (f, known, at_in p l f rest held h.1))
    kept (Do (ReturnNothing id)) rest held mem out h step = subst (Keeps _ _) (sym step) (inr (f, known, h))
    kept (Do (DoWhile w s)) rest held mem out h step = subst (Keeps _ _) (sym step) (inr (f, known, (h.0.1, h)))
    kept (Do (For w s)) rest held mem out h step = subst (Keeps _ _) (sym step) (inr (f, known, begun_in f w.first (ForHead w s ∷ rest) held h.0.0.2 h))
    kept (Do (Switch id e s)) rest held mem out h step = subst (Keeps _ _) (sym step) (inr (f, known, (h.0.1, λ v. ((h.0.0, h.0.2), h.1))))
    kept (Do (Case value s)) rest held mem out h step = subst (Keeps _ _) (sym step) (inr (f, known, h))
    kept (Do (Label name s)) rest held mem out h step = subst (Keeps _ _) (sym step) (inr (f, known, h))
    kept (Do (Goto id name)) rest held mem out h step = jumps_kept f known _ _ (at rest held mem) (jump_to name [] rest) out (goto_lands p l held f name [] rest h.1) step
    kept (Do (Break id)) rest held mem out h step = jumps_kept f known _ _ (at rest held mem) (jump_behind [] rest) out (break_lands p l held f [] rest h.1) step
    kept (Do (Continue id)) rest held mem out h step = jumps_kept f known _ _ (at rest held mem) (jump_on [] rest) out (continue_lands p l held f [] rest h.1) step
    kept (Do (Initialise id base cleared items)) rest held mem out h step = subst (Keeps _ _) (sym step) (inr (f, known, items_in f base items (Finish id ∷ rest) held h.0.1 (h.0.0, h.1)))
    kept (Do (Assert id predicate)) rest held mem out h step = absurd step
    kept (Evaluate (Number kind n)) rest held mem out h step = subst (Keeps _ _) (sym step) (inr (f, known, h.1 _))
    kept (Evaluate (Load type q)) rest held mem out h step = subst (Keeps _ _) (sym step) (inr (f, known, (h.0, λ v is. fetched_in f q type rest (v ∷ held) h.1)))
    kept (Evaluate (Binary op kind a b)) rest held mem out h step = subst (Keeps _ _) (sym step) (inr (f, known, (h.0.0, λ v. (h.0.1, λ w. h.1))))
    kept (Evaluate (Assign type q e)) rest held mem out h step = subst (Keeps _ _) (sym step) (inr (f, known, (h.0.0, λ v is. (h.0.1, λ w. h.1))))
    kept (Evaluate (LoadCells t q)) rest held mem out h step = subst (Keeps _ _) (sym step) (inr (f, known, (h.0, λ v is. h.1)))
    kept (Evaluate (AssignCells t q e)) rest held mem out h step = subst (Keeps _ _) (sym step) (inr (f, known, (h.0.0, λ v is. source_in f false t e e rest v held h.0.1 h.0.1 h.1)))
    kept (Evaluate (Address t q)) rest held mem out h step = subst (Keeps _ _) (sym step) (inr (f, known, (h.0, λ v is. h.1 v)))
    kept (Evaluate (Unary op kind e)) rest held mem out h step = subst (Keeps _ _) (sym step) (inr (f, known, (h.0, λ v. h.1)))
    kept (Evaluate (Convert t e)) rest held mem out h step = subst (Keeps _ _) (sym step) (inr (f, known, (h.0, λ v. h.1)))
    kept (Evaluate (OnPointers op left right a b)) rest held mem out h step = subst (Keeps _ _) (sym step) (inr (f, known, (h.0.0, λ v. (h.0.1, λ w. h.1))))
    kept (Evaluate (Logic is_and a b)) rest held mem out h step = subst (Keeps _ _) (sym step) (inr (f, known, (h.0.0, λ v. (h.0.1, h.1))))
    kept (Evaluate (Conditional t a b c)) rest held mem out h step = subst (Keeps _ _) (sym step) (inr (f, known, (h.0.0, λ v. ((h.0.1, h.0.2), h.1))))
    kept (Evaluate (Compound op t left right q e)) rest held mem out h step = subst (Keeps _ _) (sym step) (inr (f, known, compound_in f (scalar_of t) op t left right q e rest held h.0.0 h.0.1 h.1))
    kept (Evaluate (StepExpr up behind t q)) rest held mem out h step = subst (Keeps _ _) (sym step) (inr (f, known, step_in f (scalar_of t) up behind t q rest held h.0 h.1))
    kept (Evaluate (Comma a b)) rest held mem out h step = subst (Keeps _ _) (sym step) (inr (f, known, (h.0.0, λ v. (h.0.1, h.1))))
    kept (Evaluate (Call site t q arguments)) rest held mem out h step = subst (Keeps _ _) (sym step) (inr (f, known, (h.0.1, λ v is. call_in f site (called_type p q) q arguments rest v held h.0.2 (record { place = q; stands = h.0.0; typed = refl; found = is }) h.1)))
    kept (Locate (Variable base)) rest held mem out h step = subst (Keeps _ _) (sym step) (inr (f, known, h.1 _ refl))
    kept (Locate (Pointed e t volatile)) rest held mem out h step = subst (Keeps _ _) (sym step) (inr (f, known, (h.0, λ v w. h.1 w tt)))
    kept (Locate (Temporary e t)) rest held mem out h step = subst (Keeps _ _) (sym step) (inr (f, known, (h.0, λ v w. h.1 w tt)))
    kept (Locate (Member q c m)) rest held mem out h step = subst (Keeps _ _) (sym step) (inr (f, known, (h.0, λ v is w. h.1 w tt)))
    kept (Locate (Element q e t n end)) rest held mem out h step = subst (Keeps _ _) (sym step) (inr (f, known, (h.0.0, λ v is. (h.0.1, λ w x. h.1 x tt))))
    kept (Locate (ElementOf e q t n end)) rest held mem out h step = subst (Keeps _ _) (sym step) (inr (f, known, (h.0.0, λ v. (h.0.1, λ w is x. h.1 x tt))))
    kept (Fetch type) rest [] mem out h step = absurd step
    kept (Fetch type) rest (z ∷ held) mem out h step = subst (Keeps _ _) (sym step) (place_kept f known type (at rest held mem) z h)
    kept (Store type) rest [] mem out h step = absurd step
    kept (Store type) rest (z ∷ []) mem out h step = absurd step
    kept (Store type) rest (z ∷ w ∷ held) mem out h step = subst (Keeps _ _) (sym step) (target_kept f known type (at rest held mem) (used w) (used z) h)
    kept (Apply op kind) rest [] mem out h step = absurd step
    kept (Apply op kind) rest (z ∷ []) mem out h step = absurd step
    kept (Apply op kind) rest (z ∷ w ∷ held) mem out h step = subst (Keeps _ _) (sym step) (operands_kept f known op kind (at rest held mem) (used w) (used z) h)
    kept (Discard id) rest [] mem out h step = absurd step
    kept (Discard id) rest (z ∷ held) mem out h step = subst (Keeps _ _) (sym step) (inr (f, known, at_in p l f rest held h.1))
    kept (Choose id s t) rest [] mem out h step = absurd step
    kept (Choose id s t) rest (z ∷ held) mem out h step = subst (Keeps _ _) (sym step) (truth_kept f known id (Do s ∷ rest) (Do t ∷ rest) (at rest held mem) (used z) (h.0.1, h.1) (h.0.2, h.1))
    kept (Loop id e s) rest held mem out h step = subst (Keeps _ _) (sym step) (inr (f, known, (h.0.1, λ v. h)))
    kept (Turn id e s) rest [] mem out h step = absurd step
    kept (Turn id e s) rest (z ∷ held) mem out h step = subst (Keeps _ _) (sym step) (truth_kept f known id (Do s ∷ Loop id e s ∷ rest) rest (at rest held mem) (used z) (h.0.2, h) (at_in p l f rest held h.1))
    kept (Deliver id) rest [] mem out h step = absurd step
    kept (Deliver id) rest (Usable v ∷ held) mem out h step = leaves_kept f known _ _ (Usable v) (at rest held mem) out (λ e found. exits p l f [] rest held e h.1 found) step
    kept (Deliver id) rest (Cells cells ∷ held) mem out h step = leaves_kept f known _ _ (Cells cells) (at rest held mem) out (λ e found. exits p l f [] rest held e h.1 found) step
    kept (Deliver id) rest (Absent ∷ held) mem out h step = leaves_kept f known _ _ Absent (at rest held mem) out (λ e found. exits p l f [] rest held e h.1 found) step
    kept (Deliver id) rest (Part cells ∷ held) mem out h step = leaves_kept f known _ _ (Part cells) (at rest held mem) out (λ e found. exits p l f [] rest held e h.1 found) step
    kept (Deliver id) rest (Unusable kind ∷ held) mem out h step = subst (Keeps _ _) (sym step) ((refl, refl))
    kept (Body stmts) rest held mem out h step = subst (Keeps _ _) (sym step) (inr (f, known, at_in p l f rest held h.1))
    kept (Brace id result) rest held mem out h step = leaves_kept f known _ _ (fallen result (exit_of [] rest)) (at rest held mem) out (λ e found. behind_exits p l f [] rest held e h.1 found) step
    kept (Close bases stmts) rest held mem out h step = subst (Keeps _ _) (sym step) (inr (f, known, at_in p l f rest held h.1))
    kept (Frame function site) rest held mem out h step = absurd step
    kept Use rest [] mem out h step = absurd step
    kept Use rest (z ∷ held) mem out h step = subst (Keeps _ _) (sym step) (value_kept f known (at rest held mem) (used z) h)
    kept AsPlace rest [] mem out h step = absurd step
    kept AsPlace rest (z ∷ held) mem out h step = subst (Keeps _ _) (sym step) (inr (f, known, h _))
    kept (Reach c m) rest [] mem out h step = absurd step
    kept (Reach c m) rest (z ∷ held) mem out h step = subst (Keeps _ _) (sym step) (inr (f, known, h _))
    kept (Index t n end) rest [] mem out h step = absurd step
    kept (Index t n end) rest (z ∷ []) mem out h step = absurd step
    kept (Index t n end) rest (z ∷ w ∷ held) mem out h step = subst (Keeps _ _) (sym step) (index_kept f known t n end (at rest held mem) w (used z) h)
    kept (IndexedBy t n end) rest [] mem out h step = absurd step
    kept (IndexedBy t n end) rest (z ∷ []) mem out h step = absurd step
    kept (IndexedBy t n end) rest (z ∷ w ∷ held) mem out h step = subst (Keeps _ _) (sym step) (index_kept f known t n end (at rest held mem) z (used w) h)
    kept (Sample type) rest [] mem out h step = absurd step
    kept (Sample type) rest (z ∷ held) mem out h step = sample_kept f known type (at rest held mem) (used z) out h step
    kept (FetchCells t) rest [] mem out h step = absurd step
    kept (FetchCells t) rest (z ∷ held) mem out h step = subst (Keeps _ _) (sym step) (cells_held_kept f known (at rest held mem) (cells_read p l mem t z) h)
    kept (StoreCells named t) rest [] mem out h step = absurd step
    kept (StoreCells named t) rest (z ∷ []) mem out h step = absurd step
    kept (StoreCells named t) rest (z ∷ w ∷ held) mem out h step = subst (Keeps _ _) (sym step) (cells_kept f known named (size p.composites l.machine t) (at rest held mem) (used w) z h)
    kept (CopyCells named t) rest [] mem out h step = absurd step
    kept (CopyCells named t) rest (z ∷ []) mem out h step = absurd step
    kept (CopyCells named t) rest (z ∷ w ∷ held) mem out h step = subst (Keeps _ _) (sym step) (copy_kept f known named (size p.composites l.machine t) (at rest held mem) (used w) (used z) h)
    kept (ApplyOne op kind) rest [] mem out h step = absurd step
    kept (ApplyOne op kind) rest (z ∷ held) mem out h step = subst (Keeps _ _) (sym step) (one_kept f known (at rest held mem) (applied_to_one op kind l.machine) (used z) h)
    kept (Change t) rest [] mem out h step = absurd step
    kept (Change t) rest (z ∷ held) mem out h step = subst (Keeps _ _) (sym step) (type_kept f known t (at rest held mem) z h)
    kept (ApplyPointers op left right) rest [] mem out h step = absurd step
    kept (ApplyPointers op left right) rest (z ∷ []) mem out h step = absurd step
    kept (ApplyPointers op left right) rest (z ∷ w ∷ held) mem out h step = subst (Keeps _ _) (sym step) (two_kept f known (at rest held mem) (on_pointers p l op left right) (used w) (used z) h)
    kept (Decide is_and e) rest [] mem out h step = absurd step
    kept (Decide is_and e) rest (z ∷ held) mem out h step = subst (Keeps _ _) (sym step) (decision_kept f known (at rest held mem) (decided is_and e (at rest held mem)) (used z) (decided_in f known is_and e (at rest held mem) h.0 h.1))
    kept Settle rest [] mem out h step = absurd step
    kept Settle rest (z ∷ held) mem out h step = subst (Keeps _ _) (sym step) (decision_kept f known (at rest held mem) (settled (at rest held mem)) (used z) (λ t. inr (f, known, h _)))
    kept (Pick b c) rest [] mem out h step = absurd step
    kept (Pick b c) rest (z ∷ held) mem out h step = subst (Keeps _ _) (sym step) (decision_kept f known (at rest held mem) (picked b c (at rest held mem)) (used z) (picked_in f known b c (at rest held mem) h.0.0 h.0.1 h.1))
    kept Again rest [] mem out h step = absurd step
    kept Again rest (z ∷ held) mem out h step = subst (Keeps _ _) (sym step) (inr (f, known, h _ _))
    kept Tuck rest [] mem out h step = absurd step
    kept Tuck rest (z ∷ []) mem out h step = absurd step
    kept Tuck rest (z ∷ w ∷ held) mem out h step = subst (Keeps _ _) (sym step) (inr (f, known, h _ _ _))
    kept (Increase up t) rest [] mem out h step = absurd step
    kept (Increase up t) rest (z ∷ held) mem out h step = subst (Keeps _ _) (sym step) (one_kept f known (at rest held mem) (increased p l up t) (used z) h)
    kept Drop rest [] mem out h step = absurd step
    kept Drop rest (z ∷ held) mem out h step = subst (Keeps _ _) (sym step) (inr (f, known, h))
    kept (Enter site t n) rest held mem out h step = enters_kept site t (at rest held mem) (split_held (suc n) [] held) out h step
    kept (Put type) rest [] mem out h step = absurd step
    kept (Put type) rest (z ∷ []) mem out h step = absurd step
    kept (Put type) rest (z ∷ w ∷ held) mem out h step = subst (Keeps _ _) (sym step) (put_kept f known type (at rest held mem) (used w) (used z) h)
    kept (Paste base image) rest held mem out h step = subst (Keeps _ _) (sym step) (inr (f, known, h))
    kept (Finish id) rest held mem out h step = subst (Keeps _ _) (sym step) (inr (f, known, at_in p l f rest held h.1))
    kept (ForHead w s) rest held mem out h step = subst (Keeps _ _) (sym step) (inr (f, known, tested_in f w.condition (ForTurn w s) (Do s ∷ ForNext w s ∷ rest) rest held h.0.0.1 (λ v. h) (h.0.1, h)))
    kept (ForNext w s) rest held mem out h step = subst (Keeps _ _) (sym step) (inr (f, known, begun_in f w.next (ForHead w s ∷ rest) held h.0.0.3 h))
    kept (ForTurn w s) rest [] mem out h step = absurd step
    kept (ForTurn w s) rest (z ∷ held) mem out h step = subst (Keeps _ _) (sym step) (truth_kept f known w.id (Do s ∷ ForNext w s ∷ rest) rest (at rest held mem) (used z) (h.0.1, h) (at_in p l f rest held h.1))
    kept (DoTest w s) rest held mem out h step = subst (Keeps _ _) (sym step) (inr (f, known, tested_in f w.condition (DoTurn w s) (Do s ∷ DoTest w s ∷ rest) rest held h.0.0.1 (λ v. h) (h.0.1, h)))
    kept (DoTurn w s) rest [] mem out h step = absurd step
    kept (DoTurn w s) rest (z ∷ held) mem out h step = subst (Keeps _ _) (sym step) (truth_kept f known w.id (Do s ∷ DoTest w s ∷ rest) rest (at rest held mem) (used z) (h.0.1, h) (at_in p l f rest held h.1))
    kept (Select id s) rest [] mem out h step = absurd step
    kept (Select id s) rest (z ∷ held) mem out h step = subst (Keeps _ _) (sym step) (selection_kept f known id s (at rest held mem) (used z) (λ v. entry_kept f known (at rest held mem) (selected v s rest) h.1 (switch_lands p l held f v s rest h.0.1 h.1)))
    kept Switched rest held mem out h step = subst (Keeps _ _) (sym step) (inr (f, known, at_in p l f rest held h))

  -- ---- from the beginning on

  pub stays : (s : State) (out : Outcome) → Whole s → Step p l s out → Keeps (statement_in s.control) (sites_of s.control) out
  stays s out h step = by_control s.control h step
    where
      by_control : (control : List Work) → WholeAny p l control s.held → Step p l (record s { control = control }) out → Keeps (statement_in control) (sites_of control) out
      by_control [] h step = absurd step
      by_control (work ∷ rest) (inl e) step = absurd (cc)
      by_control (work ∷ rest) (inr (f, known, h)) step = kept f known work rest s.held s.memory out h step

  abbrev OnState : Option State → Type 0
  OnState None = Unit {0}
  OnState (Some s) = Whole s

  pub begins : (found : Option Function) (s : State) → function_at p.functions p.entry ≡ found → entered p l found ≡ Some s → Whole s
  begins None s is e = absurd (cc)
  begins (Some f) s is e =
      let entry : f.base ≡ p.entry = has_base p.functions p.entry f is in
      subst (λ found. OnState found) e (inr (f, known_by p.entry f is, body_in f None [] [] (refl, entry, refl)))
