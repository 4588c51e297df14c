-- What the acts of edges do to memory and to what is held.
use Rattle.std.specs.Prelude.{ℕ, ◌≡◌, ◌==◌, ◌*◌, Bool, false, cond, List, [], ◌++◌, take, Option, None, Some, option_map, unwrap_or, Result, Ok, Err}
use Rattle.c_base.specs.declared.kind.Kind.{Kind}
use Rattle.c_base.specs.declared.kind.Kind.TheVariants.{Initialization}
use Rattle.c_memory.specs.declared.scalar.Scalar.{Scalar}
use Rattle.c_memory.specs.Values.{Value}
use Rattle.c_memory.specs.Layouts.{Layout}
use Rattle.c_memory.specs.Memories.{Memory, stored, born, died}
use Rattle.c_memory.specs.Operations.{truth_of}
use Rattle.c_types.specs.Types.{CType, Void, scalar_of}
use Rattle.c_types.specs.Sizes.{size}
use Rattle.c_effects.specs.Images.{pasted}
use Rattle.c_effects.specs.Ranges.{put, written, copied}
use Rattle.c_effects.specs.Passing.{Argument, passed}
use Rattle.c_program.specs.Syntax.{ResultType, Function, function_at, Program}
use Rattle.c_machine.specs.Work.{Held as Holds, Usable, Unusable, Cells, Absent, Part, used}
use Rattle.c_machine.specs.Parts.{called_function, used_arguments}
use Rattle.c_machine.specs.Machine.{handed, delivered, fallen_at}
use Rattle.c_simple.specs.Trees.{Expr, Act, Set, Hold, Release, Copy, Paste, Test, Enter, Leave, Check, Call, Return, Skip}
use Rattle.c_simple_machine.specs.Types.{expr_type, place_type, target_of, is_named}
use Rattle.c_simple_machine.specs.Evaluation.{used_result, Gives, GiveAll, IsAt}

-- what is held, and memory
pub record Content : Type 0 where
  pub slots : ℕ → Option Holds
  pub memory : Memory

-- what the innermost function in progress has, and the edge that is taken: the types of what the slots hold before it, and the objects that
-- live before it and not behind it
pub record Setting : Type 0 where
  pub types : List (ℕ × CType)
  pub dying : List ℕ
  pub site : Option ℕ
  pub result : ResultType

-- An act goes on, stops, enters a function from a call's site, for a slot that gets the result, or hands a result to the caller.
pub data Effect : Type 0 where
  GoesOn : Content → Effect
  StopsWith : Kind → Effect
  Enters : ℕ → ℕ → Option ℕ → Content → Effect
  Returns : Holds → Content → Effect

-- ---- slots

abbrev pub with_slot : (ℕ → Option Holds) → ℕ → Option Holds → ℕ → Option Holds
with_slot slots slot h = λ other. cond (other == slot) h (slots other)

abbrev pub holding : Content → ℕ → Result Holds Kind → Effect
holding c slot (Err kind) = StopsWith kind
holding c slot (Ok h) = GoesOn (record c { slots = with_slot c.slots slot (Some h) })

-- what was made from the address of an object that dies can't be used any more, in memory and in slots (C11 6.2.4p2)
abbrev pub without : List ℕ → Content → Content
without bases c = record { slots = λ slot. option_map (handed bases) (c.slots slot); memory = died bases c.memory }

-- ---- stores

-- a held address; a value without a place is stored nowhere
abbrev pub address : Holds → Result Value Kind
address (Usable v) = Ok v
address (Unusable kind) = Err kind
address (Cells cells) = Err Initialization
address Absent = Err Initialization
address (Part cells) = Err Initialization

abbrev pub after : Content → Result Memory Kind → Effect
after c (Ok m) = GoesOn (record c { memory = m })
after c (Err kind) = StopsWith kind

-- A scalar is stored by an initialiser of its object, or by an assignment. The program assigns to no object by name that can't be written.
abbrev pub stored_by : Layout → Memory → Bool → Scalar → Value → Value → Result Memory Kind
stored_by l m named type at v = cond named (put l m type at v) (stored l m type at v)

abbrev pub with_scalar : Layout → Content → Bool → Scalar → Value → Result Value Kind → Effect
with_scalar l c named type at (Err kind) = StopsWith kind
with_scalar l c named type at (Ok v) = after c (stored_by l c.memory named type at v)

abbrev pub with_whole : Layout → Content → Bool → ℕ → Value → Holds → Effect
with_whole l c named bytes at (Cells cells) = after c (written l c.memory named bytes cells at)
with_whole l c named bytes at (Usable v) = StopsWith Initialization
with_whole l c named bytes at (Unusable kind) = StopsWith kind
with_whole l c named bytes at Absent = StopsWith Initialization
with_whole l c named bytes at (Part cells) = StopsWith Initialization

abbrev pub set_by : Program → Layout → Content → Bool → Option Scalar → CType → Value → Holds → Effect
set_by p l c named (Some type) t at h = with_scalar l c named type at (used h)
set_by p l c named None t at h = with_whole l c named (size p.composites l.machine t) at h

-- the place is used before the value
abbrev pub set : Program → Layout → Content → Bool → CType → Result Value Kind → Result Holds Kind → Effect
set p l c named t (Err kind) r = StopsWith kind
set p l c named t (Ok at) (Err kind) = StopsWith kind
set p l c named t (Ok at) (Ok h) = set_by p l c named (scalar_of t) t at h

-- ---- assignments of structs and unions

abbrev pub copied_from : Layout → Content → Bool → ℕ → Value → Holds → Effect
copied_from l c named bytes to (Usable source) = after c (copied l c.memory named bytes to source)
copied_from l c named bytes to (Part cells) = after c (written l c.memory named bytes (take (8 * bytes) cells) to)
copied_from l c named bytes to (Unusable kind) = StopsWith kind
copied_from l c named bytes to (Cells cells) = StopsWith Initialization
copied_from l c named bytes to Absent = StopsWith Initialization

abbrev pub copy : Layout → Content → Bool → ℕ → Result Value Kind → Result Holds Kind → Effect
copy l c named bytes (Err kind) source = StopsWith kind
copy l c named bytes (Ok to) (Err kind) = StopsWith kind
copy l c named bytes (Ok to) (Ok source) = copied_from l c named bytes to source

abbrev pub place_address : Result Holds Kind → Result Value Kind
place_address (Ok h) = address h
place_address (Err kind) = Err kind

-- ---- tests

-- the edge is one of those that are taken where the truth is this one
abbrev pub Tests : Bool → Content → Result Value Kind → Effect → Type 0
Tests truth c (Err kind) e = e ≡ StopsWith kind
Tests truth c (Ok v) e = (truth_of v ≡ truth) × (e ≡ GoesOn c)

-- ---- calls

-- the objects of the function are born, and its formals hold the arguments
abbrev pub entered : Layout → Function → List Argument → Content → Content
entered l f arguments c = record c { memory = passed l f.formals arguments (born l (f.formals ++ f.locals) c.memory) }

-- What a function without a body does is said elsewhere: it has no step here.
abbrev pub EntersFunction : Layout → ℕ → Option ℕ → List Argument → Content → Option Function → Effect → Type 0
EntersFunction l site slot arguments c None e = ⊥
EntersFunction l site slot arguments c (Some f) e = e ≡ Enters f.base site slot (entered l f arguments c)

abbrev pub EntersBase : Program → Layout → ℕ → Option ℕ → List Argument → Content → Result ℕ Kind → Effect → Type 0
EntersBase p l site slot arguments c (Err kind) e = e ≡ StopsWith kind
EntersBase p l site slot arguments c (Ok f) e = EntersFunction l site slot arguments c (function_at p.functions f) e

-- the function's address is used first, then the arguments in order
abbrev pub EntersWith : Program → Layout → ℕ → Option ℕ → CType → Content → Result Value Kind → Result (List Argument) Kind → Effect → Type 0
EntersWith p l site slot t c (Err kind) arguments e = e ≡ StopsWith kind
EntersWith p l site slot t c (Ok v) (Err kind) e = e ≡ StopsWith kind
EntersWith p l site slot t c (Ok v) (Ok arguments) e = EntersBase p l site slot arguments c (called_function p l t v) e

abbrev pub Calls : Program → Layout → ℕ → Option ℕ → CType → Content → Result Holds Kind → Result (List Holds) Kind → Effect → Type 0
Calls p l site slot t c (Err kind) arguments e = e ≡ StopsWith kind
Calls p l site slot t c (Ok f) (Err kind) e = e ≡ StopsWith kind
Calls p l site slot t c (Ok f) (Ok arguments) e = EntersWith p l site slot t c (used f) (used_arguments arguments) e

-- ---- returns

abbrev pub handed_on : List ℕ → Content → Result Holds Kind → Effect
handed_on dying c (Err kind) = StopsWith kind
handed_on dying c (Ok h) = Returns (handed dying h) (without dying c)

-- a `return` uses a scalar, and hands on cells with their flags (C11 6.8.6.4p3)
abbrev pub returned : List ℕ → Content → Result Holds Kind → Effect
returned dying c (Err kind) = StopsWith kind
returned dying c (Ok h) = handed_on dying c (delivered h)

-- ---- acts
module _ (p : Program) (l : Layout) where
  abbrev pub Returning : Setting → Content → Option Expr → Effect → Type 0
  Returning x c None e = e ≡ returned x.dying c (Ok (fallen_at x.site x.result))
  Returning x c (Some value) e =
      (r : Result Holds Kind) × Gives p l x.types c.slots c.memory value r × (e ≡ returned x.dying c r)

  -- Places are found before values. What a predicate tests is said elsewhere: a check has no step here.
  abbrev pub Does : Setting → Act → Content → Effect → Type 0
  Does x (Set q value) c e =
      (at : Result Holds Kind) × IsAt p l x.types c.slots c.memory false q at
      × ((r : Result Holds Kind) × Gives p l x.types c.slots c.memory value r
      × (e ≡ set p l c (is_named q) (unwrap_or (place_type p x.types q) Void) (place_address at) r))
  Does x (Hold slot value) c e = (r : Result Holds Kind) × Gives p l x.types c.slots c.memory value r × (e ≡ holding c slot r)
  Does x (Release slot) c e = e ≡ GoesOn (record c { slots = with_slot c.slots slot None })
  Does x (Copy to source) c e =
      (at : Result Holds Kind) × IsAt p l x.types c.slots c.memory false to at
      × ((from : Result Holds Kind) × IsAt p l x.types c.slots c.memory false source from
      × (e ≡ copy l c (is_named to) (size p.composites l.machine (unwrap_or (place_type p x.types to) Void)) (place_address at) from))
  Does x (Paste base image) c e = e ≡ GoesOn (record c { memory = pasted l base image c.memory })
  Does x (Test value truth) c e = (r : Result Holds Kind) × Gives p l x.types c.slots c.memory value r × Tests truth c (used_result r) e
  Does x (Enter bases) c e = e ≡ GoesOn (record c { memory = born l bases c.memory })
  Does x (Leave bases) c e = e ≡ GoesOn (without bases c)
  Does x (Check kind predicate) c e = ⊥
  Does x (Call site f arguments slot) c e =
      (r : Result Holds Kind) × Gives p l x.types c.slots c.memory f r
      × ((rs : Result (List Holds) Kind) × GiveAll p l x.types c.slots c.memory arguments rs
      × Calls p l site slot (target_of (expr_type p x.types f)) c r rs e)
  Does x (Return value slot) c e = Returning x c value e
  Does x Skip c e = e ≡ GoesOn c
