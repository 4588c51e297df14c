-- The meaning of programs: a machine that goes through a list of work (C11 5.1.2.3, 6.5, 6.8), from left to right.
use Rattle.std.specs.Prelude.{ℕ, suc, Bool, true, false, option_map, ◌≡◌, ◌*◌, cond, List, [], ◌∷◌, ◌++◌, map, replicate, ℤ, pos, Option, None, Some, Result, Ok, Err}
use Rattle.std.specs.List.{list_any}
use Rattle.std.specs.FinSet.{contains}
use Rattle.c_base.specs.declared.integer.IntKind.{IntKind}
use Rattle.c_base.specs.declared.operators.BinOp.{BinOp}
use Rattle.c_base.specs.declared.operators.UnOp.{UnOp}
use Rattle.c_base.specs.declared.kind.Kind.{Kind}
use Rattle.c_base.specs.declared.kind.Kind.TheVariants.{Initialization, DanglingPointer, MemAccess}
use Rattle.c_base.specs.Operators.{truth_number}
use Rattle.c_base.specs.Integers.{is_signed, width_of, FitsBits}
use Rattle.c_memory.specs.declared.scalar.Scalar.{Scalar}
use Rattle.c_memory.specs.declared.scalar.Scalar.TheVariants.{Integer}
use Rattle.c_memory.specs.Values.{Value, plain, nowhere, Cell, Bit, Uninit, wither}
use Rattle.c_memory.specs.Layouts.{Layout}
use Rattle.c_memory.specs.Memories.{Memory, address_of, loaded, stored, born, died, reached}
use Rattle.c_memory.specs.Operations.{truth_of, applied_to}
use Rattle.c_memory.specs.Scalars.{kind_in_memory, size_of_scalar}
use Rattle.c_types.specs.Types.{CType}
use Rattle.c_types.specs.Types as types
use Rattle.c_types.specs.Sizes.{size}
use Rattle.c_pointers.specs.Conversions.{applied_to_one}
use Rattle.c_effects.specs.Images.{pasted, with_items}
use Rattle.c_effects.specs.Ranges.{read, put, written, copied}
use Rattle.c_effects.specs.Passing.{Argument, passed}
use Rattle.c_typed_stmt.specs.declared.init.ImageItem.{ImageItem}
use Rattle.c_program.specs.Syntax.{Lvalue, Variable, Pointed, Temporary, Member, Element, ElementOf, Expr, Number, Load, Binary, Assign, LoadCells, AssignCells, Address, Unary, Convert, OnPointers, Logic, Conditional, Compound, Step as StepExpr, Comma, Call, Numbered, Head, Stmt, Expression, Return, If, While, Block, Nothing, Empty, ReturnNothing, DoWhile, For, Switch, Case, Label, Goto, Break, Continue, Initialise, Stmts, Done, ResultType, Void, Returns, ReturnsCells, Base, base_at, is_static, Function, function_at, Program}
pub use Rattle.c_machine.specs.Work.{Held, Usable, Unusable, Cells, Absent, Part, used, Work, Do, Evaluate, Locate, Fetch, Store, Apply, Discard, Choose, Loop, Turn, Deliver, Body, Brace, Close, Frame, Use, AsPlace, Reach, Index, IndexedBy, Sample, FetchCells, StoreCells, CopyCells, ApplyOne, Change, ApplyPointers, Decide, Settle, Pick, Again, Tuck, Increase, Drop, Enter, Put, Paste, Finish, ForHead, ForNext, ForTurn, DoTest, DoTurn, Select, Switched, queued, sites_of, statement_in, number_of, arrival, scopes_of, Exit, exit_of}
use Rattle.c_machine.specs.Jumps.{Jump, jump_to, jump_behind, jump_on, Entry, selected}
use Rattle.c_machine.specs.Parts.{place_of_cells, member_place, element_place, part_value, cells_read, converted, increased, on_pointers, called_function, used_arguments, split_held}
use Rattle.c_machine.specs.Unfolding.{fetched_by, cells_work, arguments_work, count, items_work, compound_work, step_work}

-- ---- states and steps

pub record State : Type 0 where
  pub control : List Work
  pub held : List Held
  pub memory : Memory

-- a step leads to a state, or stops with its kind at a statement, in a call string
pub data Outcome : Type 0 where
  Goes : State → Outcome
  Stops : Kind → ℕ → List ℕ → Outcome

abbrev pub holding : Held → State → State
holding h s = record s { held = h ∷ s.held }

-- the stop of a step in the statement in which the state goes on
abbrev pub stops_in : State → Kind → Outcome
stops_in s kind = Stops kind (statement_in s.control) (sites_of s.control)

-- a value, or the stop of its step
abbrev pub with_value : State → Result Value Kind → Outcome
with_value s (Ok v) = Goes (holding (Usable v) s)
with_value s (Err kind) = stops_in s kind

-- operators use their left operand first
abbrev pub with_operands : Layout → BinOp → IntKind → State → Result Value Kind → Result Value Kind → Outcome
with_operands l op kind s (Err k) b = stops_in s k
with_operands l op kind s (Ok a) (Err k) = stops_in s k
with_operands l op kind s (Ok a) (Ok b) = with_value s (applied_to op kind l.machine a b)

abbrev pub with_address : Layout → Scalar → State → Result Value Kind → Outcome
with_address l type s (Ok at) = with_value s (loaded l s.memory type at)
with_address l type s (Err k) = stops_in s k

abbrev pub with_held : State → Result Held Kind → Outcome
with_held s (Ok h) = Goes (holding h s)
with_held s (Err kind) = stops_in s kind

-- a load at a held place: from an address, or from the cells of a value without a place
abbrev pub with_place : Layout → Scalar → State → Held → Outcome
with_place l type s (Usable at) = with_value s (loaded l s.memory type at)
with_place l type s (Unusable kind) = stops_in s kind
with_place l type s (Cells cells) = with_address l type s (used (Cells cells))
with_place l type s Absent = with_address l type s (used Absent)
with_place l type s (Part cells) = with_value s (part_value l type cells)

abbrev pub with_memory : Value → State → Result Memory Kind → Outcome
with_memory v s (Ok m) = Goes (holding (Usable v) (record s { memory = m }))
with_memory v s (Err kind) = stops_in s kind

abbrev pub with_target : Layout → Scalar → State → Result Value Kind → Result Value Kind → Outcome
with_target l type s (Err k) v = stops_in s k
with_target l type s (Ok at) (Err k) = stops_in s k
with_target l type s (Ok at) (Ok v) = with_memory v s (stored l s.memory type at v)

-- a memory and a held value, or the stop of its step
abbrev pub with_change : Held → State → Result Memory Kind → Outcome
with_change h s (Ok m) = Goes (holding h (record s { memory = m }))
with_change h s (Err kind) = stops_in s kind

-- an initialiser stores a scalar in the object that it names
abbrev pub with_put : Layout → Scalar → State → Result Value Kind → Result Value Kind → Outcome
with_put l type s (Err k) v = stops_in s k
with_put l type s (Ok at) (Err k) = stops_in s k
with_put l type s (Ok at) (Ok v) = with_memory v s (put l s.memory type at v)

-- cells of a struct or union are stored at an address
abbrev pub with_cells : Layout → Bool → ℕ → State → Result Value Kind → Held → Outcome
with_cells l named bytes s (Err k) h = stops_in s k
with_cells l named bytes s (Ok at) (Cells cells) = with_change (Cells cells) s (written l s.memory named bytes cells at)
with_cells l named bytes s (Ok at) (Usable v) = stops_in s Initialization
with_cells l named bytes s (Ok at) (Unusable kind) = stops_in s kind
with_cells l named bytes s (Ok at) Absent = stops_in s Initialization
with_cells l named bytes s (Ok at) (Part cells) = stops_in s Initialization

-- what a copy holds behind: the cells that now stand at the address
abbrev pub with_copied : State → Result (List Cell) Kind → Result Memory Kind → Outcome
with_copied s (Err kind) m = stops_in s kind
with_copied s (Ok cells) m = with_change (Cells cells) s m

abbrev pub with_copy : Layout → Bool → ℕ → State → Result Value Kind → Result Value Kind → Outcome
with_copy l named bytes s (Err k) source = stops_in s k
with_copy l named bytes s (Ok to) (Err k) = stops_in s k
with_copy l named bytes s (Ok to) (Ok source) = with_copied s (read l s.memory bytes source) (copied l s.memory named bytes to source)

abbrev pub with_cells_held : State → Result (List Cell) Kind → Outcome
with_cells_held s (Ok cells) = Goes (holding (Cells cells) s)
with_cells_held s (Err kind) = stops_in s kind

-- the truth of the held value leads on to one of two lists of work; its use may stop at the statement
abbrev pub with_truth : ℕ → List Work → List Work → State → Result Value Kind → Outcome
with_truth id when_true when_false s (Ok v) = Goes (record s { control = cond (truth_of v) when_true when_false })
with_truth id when_true when_false s (Err kind) = Stops kind id (sites_of s.control)

-- a function of one used value, and of two, the left one first
abbrev pub with_one : State → (Value → Result Value Kind) → Result Value Kind → Outcome
with_one s f (Err k) = stops_in s k
with_one s f (Ok v) = with_value s (f v)

abbrev pub with_two : State → (Value → Value → Result Value Kind) → Result Value Kind → Result Value Kind → Outcome
with_two s f (Err k) b = stops_in s k
with_two s f (Ok a) (Err k) = stops_in s k
with_two s f (Ok a) (Ok b) = with_value s (f a b)

-- a truth that decides within an expression
abbrev pub with_decision : State → (Bool → State) → Result Value Kind → Outcome
with_decision s next (Err k) = stops_in s k
with_decision s next (Ok v) = Goes (next (truth_of v))

abbrev pub truth_held : Bool → State → State
truth_held t s = holding (Usable (plain (truth_number t))) s

-- `&&` goes on where its left operand is true, and `||` where it is false (C11 6.5.13p4, 6.5.14p4)
abbrev pub decided : Bool → Expr → State → Bool → State
decided true e s true = record s { control = Evaluate e ∷ Settle ∷ s.control }
decided true e s false = truth_held false s
decided false e s true = truth_held true s
decided false e s false = record s { control = Evaluate e ∷ Settle ∷ s.control }

abbrev pub picked : Expr → Expr → State → Bool → State
picked b c s t = record s { control = cond t (Evaluate b) (Evaluate c) ∷ s.control }

abbrev pub settled : State → Bool → State
settled s t = truth_held t s

abbrev pub with_conversion : Layout → CType → State → Result Value Kind → Outcome
with_conversion l t s (Err k) = stops_in s k
with_conversion l t s (Ok v) = Goes (holding (converted l t v) s)

-- a conversion uses a value where it makes one; what is converted to void is discarded
abbrev pub with_change_of_type : Layout → CType → State → Held → Outcome
with_change_of_type l types.Void s h = Goes (holding Absent s)
with_change_of_type l (types.Integer kind) s h = with_conversion l (types.Integer kind) s (used h)
with_change_of_type l (types.Pointer to) s h = with_conversion l (types.Pointer to) s (used h)
with_change_of_type l (types.Array of n) s h = Goes (holding h s)
with_change_of_type l (types.Composite n) s h = Goes (holding h s)
with_change_of_type l (types.Function result params variadic) s h = Goes (holding h s)

-- an index is used; the place is checked to have such an element
abbrev pub with_index : Program → Layout → CType → ℕ → Bool → State → Held → Result Value Kind → Outcome
with_index program l t n end s place (Err k) = stops_in s k
with_index program l t n end s place (Ok i) = with_held s (element_place program l t n end place i)

-- any value of the type, where an object is there (C11 6.7.3p7)
abbrev pub Samples : Layout → Scalar → State → Option ℕ → Outcome → Type 0
Samples l type s None out = out ≡ stops_in s MemAccess
Samples l type s (Some base) out =
    (n : ℤ) × FitsBits (is_signed (kind_in_memory type)) (width_of (kind_in_memory type) l.machine) n × (out ≡ Goes (holding (Usable (plain n)) s))

abbrev pub SamplesAt : Layout → Scalar → State → Result Value Kind → Outcome → Type 0
SamplesAt l type s (Err k) out = out ≡ stops_in s k
SamplesAt l type s (Ok at) out = Samples l type s (reached l s.memory (size_of_scalar type l.machine) at) out

-- what was made from the address of an object that dies in the return can't be used behind it (C11 6.2.4p2)
abbrev pub handed : List ℕ → Held → Held
handed dying (Usable v) = cond (list_any (contains v.provenance) dying) (Unusable DanglingPointer) (Usable v)
handed dying (Cells cells) = Cells (map (wither dying) cells)
handed dying h = h

-- The function's objects die, and its caller goes on with the result. After the function that was entered first there is no work.
abbrev pub Leaves : Held → State → Option Exit → Outcome → Type 0
Leaves h s None out = ⊥
Leaves h s (Some e) out = out ≡ Goes (holding (handed e.dying h) (record s { control = e.rest; memory = died e.dying s.memory }))

-- a `return` uses a scalar, and hands on cells with their flags (C11 6.8.6.4p3)
abbrev pub delivered : Held → Result Held Kind
delivered (Unusable kind) = Err kind
delivered h = Ok h

abbrev pub Delivers : ℕ → State → Result Held Kind → Outcome → Type 0
Delivers id s (Ok h) out = Leaves h s (exit_of [] s.control) out
Delivers id s (Err kind) out = out ≡ Stops kind id (sites_of s.control)

-- What a call has whose function falls off its end (C11 6.9.1p12): a value that no step may use, where the function isn't void. The
-- function that is entered first returns 0 where its result is an integer (5.1.2.2.3p1).
abbrev pub fallen_at : Option ℕ → ResultType → Held
fallen_at site Void = Absent
fallen_at None (Returns (Integer kind)) = Usable (plain (pos 0))
fallen_at site (Returns type) = Unusable Initialization
fallen_at site (ReturnsCells bytes) = Cells (replicate (8 * bytes) Uninit)

abbrev pub fallen : ResultType → Option Exit → Held
fallen result None = Absent
fallen result (Some e) = fallen_at e.site result

-- ---- jumps

abbrev pub Jumps : State → Option Jump → Outcome → Type 0
Jumps s None out = ⊥
Jumps s (Some j) out = out ≡ Goes (record s { control = j.control; memory = died j.dying s.memory })

abbrev pub enters : Layout → State → Option Entry → State
enters l s None = s
enters l s (Some e) = record s { control = e.control; memory = born l e.born s.memory }

abbrev pub with_selection : Layout → ℕ → Stmt → State → Result Value Kind → Outcome
with_selection l id body s (Ok v) = Goes (enters l s (selected v.number body s.control))
with_selection l id body s (Err kind) = Stops kind id (sites_of s.control)

-- ---- calls

-- A function begins with the statements of its body, which its closing brace follows; its formals and the objects of its body live until
-- it is left. The mark of its statements stands inside both, so that a jump to one of them keeps the brace and these objects.
abbrev pub body_of : Function → Option ℕ → List Work → List Work
body_of f site rest =
    queued f.body (Body f.body ∷ Brace f.end f.result ∷ Close (f.formals ++ f.locals) Done ∷ Frame f.base site ∷ rest)

-- the objects of the function are born, and its formals hold the arguments
abbrev pub entering : Layout → ℕ → Function → List Argument → State → State
entering l site f arguments s = record s {
  control = body_of f (Some site) s.control;
  memory = passed l f.formals arguments (born l (f.formals ++ f.locals) s.memory);
}

-- What a function without a body does is said elsewhere: it has no step here.
abbrev pub EntersFunction : Layout → ℕ → List Argument → State → Option Function → Outcome → Type 0
EntersFunction l site arguments s None out = ⊥
EntersFunction l site arguments s (Some f) out = out ≡ Goes (entering l site f arguments s)

abbrev pub EntersBase : Program → Layout → ℕ → List Argument → State → Result ℕ Kind → Outcome → Type 0
EntersBase program l site arguments s (Err kind) out = out ≡ stops_in s kind
EntersBase program l site arguments s (Ok f) out = EntersFunction l site arguments s (function_at program.functions f) out

-- the function's address is used first, then the arguments in order
abbrev pub EntersWith : Program → Layout → ℕ → CType → State → Result Value Kind → Result (List Argument) Kind → Outcome → Type 0
EntersWith program l site t s (Err kind) arguments out = out ≡ stops_in s kind
EntersWith program l site t s (Ok v) (Err kind) out = out ≡ stops_in s kind
EntersWith program l site t s (Ok v) (Ok arguments) out = EntersBase program l site arguments s (called_function program l t v) out

abbrev pub Enters : Program → Layout → ℕ → CType → State → Option (List Held × List Held) → Outcome → Type 0
Enters program l site t s None out = ⊥
Enters program l site t s (Some ([], below)) out = ⊥
Enters program l site t s (Some (f ∷ arguments, below)) out =
    EntersWith program l site t (record s { held = below }) (used f) (used_arguments arguments) out

-- the first or third part of a `for` is an expression statement
abbrev pub begun : Option Numbered → List Work → List Work
begun None rest = rest
begun (Some n) rest = Do (Expression n.id n.value) ∷ rest

-- a condition is evaluated before a turn; without one the loop goes on
abbrev pub tested : Option Expr → Work → List Work → List Work → List Work
tested None turn on rest = on
tested (Some e) turn on rest = Evaluate e ∷ turn ∷ rest

-- the type of the function that is called
abbrev pub called_type : Program → Lvalue → CType
called_type program (Variable base) = type_at (base_at program.bases base)
  where
    type_at : Option Base → CType
    type_at None = types.Void
    type_at (Some b) = b.ctype
called_type program (Pointed e t volatile) = t
called_type program (Temporary e t) = t
called_type program (Member p c m) = types.Void
called_type program (Element p e t n end) = t
called_type program (ElementOf e p t n end) = t

-- How the machine goes on from an item of work, what is held, and the state without the item. What is missing never happens.
module _ (program : Program) where
  abbrev pub Does : Layout → Work → List Held → State → Outcome → Type 0
  Does l (Do (Expression id e)) held s out = out ≡ Goes (record s { control = Evaluate e ∷ Discard id ∷ s.control })
  Does l (Do (Return id e)) held s out = out ≡ Goes (record s { control = Evaluate e ∷ Deliver id ∷ s.control })
  Does l (Do (If id e left right)) held s out = out ≡ Goes (record s { control = Evaluate e ∷ Choose id left right ∷ s.control })
  Does l (Do (While id e body)) held s out = out ≡ Goes (record s { control = Loop id e body ∷ s.control })
  Does l (Do (Block bases stmts)) held s out =
      out ≡ Goes (record s { control = queued stmts (Close bases stmts ∷ s.control); memory = born l bases s.memory })
  Does l (Do Nothing) held s out = out ≡ Goes s
  Does l (Evaluate (Number kind n)) held s out = out ≡ Goes (holding (Usable (plain n)) s)
  Does l (Evaluate (Load type p)) held s out = out ≡ Goes (record s { control = Locate p ∷ fetched_by program p type ∷ s.control })
  Does l (Evaluate (Binary op kind a b)) held s out =
      out ≡ Goes (record s { control = Evaluate a ∷ Evaluate b ∷ Apply op kind ∷ s.control })
  Does l (Evaluate (Assign type p e)) held s out =
      out ≡ Goes (record s { control = Locate p ∷ Evaluate e ∷ Store type ∷ s.control })
  Does l (Locate (Variable base)) held s out = out ≡ Goes (holding (Usable (address_of l base)) s)
  Does l (Fetch type) (at ∷ held) s out = out ≡ with_place l type (record s { held = held }) at
  Does l (Store type) (v ∷ at ∷ held) s out = out ≡ with_target l type (record s { held = held }) (used at) (used v)
  Does l (Apply op kind) (b ∷ a ∷ held) s out = out ≡ with_operands l op kind (record s { held = held }) (used a) (used b)
  Does l (Discard id) (h ∷ held) s out = out ≡ Goes (record s { held = held })
  Does l (Choose id left right) (h ∷ held) s out =
      out ≡ with_truth id (Do left ∷ s.control) (Do right ∷ s.control) (record s { held = held }) (used h)
  Does l (Loop id e body) held s out = out ≡ Goes (record s { control = Evaluate e ∷ Turn id e body ∷ s.control })
  Does l (Turn id e body) (h ∷ held) s out =
      out ≡ with_truth id (Do body ∷ Loop id e body ∷ s.control) s.control (record s { held = held }) (used h)
  Does l (Deliver id) (h ∷ held) s out = Delivers id (record s { held = held }) (delivered h) out
  Does l (Body stmts) held s out = out ≡ Goes s
  Does l (Brace id result) held s out = Leaves (fallen result (exit_of [] s.control)) s (exit_of [] s.control) out
  Does l (Close bases stmts) held s out = out ≡ Goes (record s { memory = died bases s.memory })
  Does l (Do (Empty id)) held s out = out ≡ Goes s
  Does l (Do (ReturnNothing id)) held s out = out ≡ Goes (holding Absent (record s { control = Deliver id ∷ s.control }))
  Does l (Do (DoWhile h body)) held s out = out ≡ Goes (record s { control = Do body ∷ DoTest h body ∷ s.control })
  Does l (Do (For h body)) held s out = out ≡ Goes (record s { control = begun h.first (ForHead h body ∷ s.control) })
  Does l (Do (Switch id e body)) held s out = out ≡ Goes (record s { control = Evaluate e ∷ Select id body ∷ s.control })
  Does l (Do (Case value body)) held s out = out ≡ Goes (record s { control = Do body ∷ s.control })
  Does l (Do (Label name body)) held s out = out ≡ Goes (record s { control = Do body ∷ s.control })
  Does l (Do (Goto id name)) held s out = Jumps s (jump_to name [] s.control) out
  Does l (Do (Break id)) held s out = Jumps s (jump_behind [] s.control) out
  Does l (Do (Continue id)) held s out = Jumps s (jump_on [] s.control) out
  Does l (Do (Initialise id base cleared items)) held s out =
      out ≡ Goes (record s { control = items_work base items (Finish id ∷ s.control); memory = pasted l base cleared s.memory })
  Does l (Evaluate (LoadCells t p)) held s out = out ≡ Goes (record s { control = Locate p ∷ FetchCells t ∷ s.control })
  Does l (Evaluate (AssignCells t p e)) held s out = out ≡ Goes (record s { control = cells_work false t p e s.control })
  Does l (Evaluate (Address t p)) held s out = out ≡ Goes (record s { control = Locate p ∷ s.control })
  Does l (Evaluate (Unary op kind e)) held s out = out ≡ Goes (record s { control = Evaluate e ∷ ApplyOne op kind ∷ s.control })
  Does l (Evaluate (Convert t e)) held s out = out ≡ Goes (record s { control = Evaluate e ∷ Change t ∷ s.control })
  Does l (Evaluate (OnPointers op left right a b)) held s out =
      out ≡ Goes (record s { control = Evaluate a ∷ Evaluate b ∷ ApplyPointers op left right ∷ s.control })
  Does l (Evaluate (Logic is_and a b)) held s out = out ≡ Goes (record s { control = Evaluate a ∷ Decide is_and b ∷ s.control })
  Does l (Evaluate (Conditional t a b c)) held s out = out ≡ Goes (record s { control = Evaluate a ∷ Pick b c ∷ s.control })
  Does l (Evaluate (Compound op t left right p e)) held s out =
      out ≡ Goes (record s { control = compound_work program op t left right p e s.control })
  Does l (Evaluate (StepExpr up behind t p)) held s out = out ≡ Goes (record s { control = step_work program up behind t p s.control })
  Does l (Evaluate (Comma a b)) held s out = out ≡ Goes (record s { control = Evaluate a ∷ Drop ∷ Evaluate b ∷ s.control })
  Does l (Evaluate (Call site t p arguments)) held s out =
      out ≡ Goes (record s { control = Locate p ∷ arguments_work arguments (Enter site (called_type program p) (count arguments) ∷ s.control) })
  Does l (Locate (Pointed e t volatile)) held s out = out ≡ Goes (record s { control = Evaluate e ∷ Use ∷ s.control })
  Does l (Locate (Temporary e t)) held s out = out ≡ Goes (record s { control = Evaluate e ∷ AsPlace ∷ s.control })
  Does l (Locate (Member p c m)) held s out = out ≡ Goes (record s { control = Locate p ∷ Reach c m ∷ s.control })
  Does l (Locate (Element p e t n end)) held s out = out ≡ Goes (record s { control = Locate p ∷ Evaluate e ∷ Index t n end ∷ s.control })
  Does l (Locate (ElementOf e p t n end)) held s out = out ≡ Goes (record s { control = Evaluate e ∷ Locate p ∷ IndexedBy t n end ∷ s.control })
  Does l Use (h ∷ held) s out = out ≡ with_value (record s { held = held }) (used h)
  Does l AsPlace (h ∷ held) s out = out ≡ Goes (record s { held = place_of_cells h ∷ held })
  Does l (Reach c m) (h ∷ held) s out = out ≡ Goes (record s { held = member_place program l c m h ∷ held })
  Does l (Index t n end) (i ∷ h ∷ held) s out = out ≡ with_index program l t n end (record s { held = held }) h (used i)
  Does l (IndexedBy t n end) (h ∷ i ∷ held) s out = out ≡ with_index program l t n end (record s { held = held }) h (used i)
  Does l (Sample type) (h ∷ held) s out = SamplesAt l type (record s { held = held }) (used h) out
  Does l (FetchCells t) (h ∷ held) s out = out ≡ with_cells_held (record s { held = held }) (cells_read program l s.memory t h)
  Does l (StoreCells named t) (h ∷ at ∷ held) s out =
      out ≡ with_cells l named (size program.composites l.machine t) (record s { held = held }) (used at) h
  Does l (CopyCells named t) (source ∷ to ∷ held) s out =
      out ≡ with_copy l named (size program.composites l.machine t) (record s { held = held }) (used to) (used source)
  Does l (ApplyOne op kind) (h ∷ held) s out = out ≡ with_one (record s { held = held }) (applied_to_one op kind l.machine) (used h)
  Does l (Change t) (h ∷ held) s out = out ≡ with_change_of_type l t (record s { held = held }) h
  Does l (ApplyPointers op left right) (b ∷ a ∷ held) s out =
      out ≡ with_two (record s { held = held }) (on_pointers program l op left right) (used a) (used b)
  Does l (Decide is_and e) (h ∷ held) s out =
      out ≡ with_decision (record s { held = held }) (decided is_and e (record s { held = held })) (used h)
  Does l Settle (h ∷ held) s out = out ≡ with_decision (record s { held = held }) (settled (record s { held = held })) (used h)
  Does l (Pick b c) (h ∷ held) s out = out ≡ with_decision (record s { held = held }) (picked b c (record s { held = held })) (used h)
  Does l Again (h ∷ held) s out = out ≡ Goes (record s { held = h ∷ h ∷ held })
  Does l Tuck (v ∷ at ∷ held) s out = out ≡ Goes (record s { held = v ∷ at ∷ v ∷ held })
  Does l (Increase up t) (h ∷ held) s out = out ≡ with_one (record s { held = held }) (increased program l up t) (used h)
  Does l Drop (h ∷ held) s out = out ≡ Goes (record s { held = held })
  Does l (Enter site t n) held s out = Enters program l site t s (split_held (suc n) [] held) out
  Does l (Put type) (v ∷ at ∷ held) s out = out ≡ with_put l type (record s { held = held }) (used at) (used v)
  Does l (Paste base image) held s out = out ≡ Goes (record s { memory = pasted l base image s.memory })
  Does l (Finish id) held s out = out ≡ Goes s
  Does l (ForHead h body) held s out = out ≡ Goes (record s { control = tested h.condition (ForTurn h body) (Do body ∷ ForNext h body ∷ s.control) s.control })
  Does l (ForNext h body) held s out = out ≡ Goes (record s { control = begun h.next (ForHead h body ∷ s.control) })
  Does l (ForTurn h body) (t ∷ held) s out =
      out ≡ with_truth h.id (Do body ∷ ForNext h body ∷ s.control) s.control (record s { held = held }) (used t)
  Does l (DoTest h body) held s out = out ≡ Goes (record s { control = tested h.condition (DoTurn h body) (Do body ∷ DoTest h body ∷ s.control) s.control })
  Does l (DoTurn h body) (t ∷ held) s out =
      out ≡ with_truth h.id (Do body ∷ DoTest h body ∷ s.control) s.control (record s { held = held }) (used t)
  Does l (Select id body) (h ∷ held) s out = out ≡ with_selection l id body (record s { held = held }) (used h)
  Does l Switched held s out = out ≡ Goes s
  Does l work held s out = ⊥

  abbrev pub DoesNext : Layout → List Work → State → Outcome → Type 0
  DoesNext l [] s out = ⊥
  DoesNext l (work ∷ rest) s out = Does l work s.held (record s { control = rest }) out

  -- one step of the machine
  abbrev pub Step : Layout → State → Outcome → Type 0
  Step l s out = DoesNext l s.control s out

-- ---- runs

-- what a base holds before the run: an object that lives as long as the run is zero (C11 6.7.9p10), where no initialiser has an image of it
abbrev pub first_cells : Option Base → Option (List Cell)
first_cells None = None
first_cells (Some b) = cond (is_static b.sort) (Some (replicate (8 * b.size) (Bit false nowhere 0))) None

-- what an initialiser's image makes of it
abbrev pub imaged : Layout → Option (List ImageItem) → Option (List Cell) → Option (List Cell)
imaged l None cells = cells
imaged l (Some image) cells = option_map (with_items l image) cells

abbrev pub image_at : Option Base → Option (List ImageItem)
image_at None = None
image_at (Some b) = b.image

-- the memory before the run; images of initialisers are written here, in this layout
abbrev pub initial_memory : Program → Layout → Memory
initial_memory p l = λ base. imaged l (image_at (base_at p.bases base)) (first_cells (base_at p.bases base))

abbrev pub entered : Program → Layout → Option Function → Option State
entered p l None = None
entered p l (Some f) = Some (record {
  control = body_of f None [];
  held = [];
  memory = born l (f.formals ++ f.locals) (initial_memory p l);
})

-- where the run of a program begins: the objects of the function that is entered first are born
abbrev pub initial : Program → Layout → Option State
initial p l = entered p l (function_at p.functions p.entry)

abbrev pub IsInitial : Program → Layout → State → Type 0
IsInitial p l s = initial p l ≡ Some s

-- the states follow one another from the first one on
abbrev pub IsRun : Program → Layout → State → List State → Type 0
IsRun program l s [] = Unit {0}
IsRun program l s (t ∷ ts) = Step program l s (Goes t) × IsRun program l t ts

abbrev pub last_of : State → List State → State
last_of s [] = s
last_of s (t ∷ ts) = last_of t ts
