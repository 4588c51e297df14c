-- Steps in which values that were made from addresses are used as pointers alone: their addresses are formed, moved within their objects and
-- to their ends, compared, subtracted and tested; they are kept, copied and passed as wholes; and nothing reads their numbers.
use Rattle.std.specs.Prelude.{ℕ, ◌*◌, ◌≡◌, ◌⊎◌, Bool, false, IsTrue, List, [], ◌∷◌, Option, None, Some, Result, Ok, Err, take}
use Rattle.c_base.specs.declared.integer.IntKind.TheVariants.{Bool as bool_kind}
use Rattle.c_base.specs.declared.kind.Kind.{Kind}
use Rattle.c_base.specs.declared.operators.BinOp.{BinOp}
use Rattle.c_base.specs.declared.operators.BinOp.TheVariants.{Add, Sub}
use Rattle.c_memory.specs.declared.scalar.Scalar.{Scalar}
use Rattle.c_memory.specs.Scalars.{size_of_scalar, bits_of_scalar}
use Rattle.c_memory.specs.Values.{Value, Cell}
use Rattle.c_memory.specs.Layouts.{Layout}
use Rattle.c_memory.specs.Memories.{Memory, reached, cells_at, offset_in}
use Rattle.c_types.specs.Types.{CType, Integer, Pointer}
use Rattle.c_pointers.specs.Addresses.{is_plain, only_base, is_in_or_behind}
use Rattle.c_program.specs.Syntax.{Program}
use Rattle.c_machine.specs.Machine.{Held, Usable, Part, used, Work, Fetch, Apply, Index, IndexedBy, FetchCells, CopyCells, ApplyOne, Change, ApplyPointers, Increase, Select, State, IsRun}
use Rattle.c_machine.specs.Parts.{cells_read, on_pointers, increased}
use Rattle.c_machine.specs.Laws.{is_choice}
use Rattle.c_tame.specs.Whole.{AreWhole, IsWholeMemory}

-- ---- values

abbrev pub IsPlain : Result Value Kind → Type 0
IsPlain (Ok v) = IsTrue (is_plain v)
IsPlain (Err kind) = Unit {0}

abbrev pub points_within : Layout → Value → Option ℕ → Bool
points_within l v None = false
points_within l v (Some base) = is_in_or_behind l base v

-- a number without an address, or a pointer into the one object that it was made from, or to its end
abbrev pub StaysWithin : Layout → Result Value Kind → Type 0
StaysWithin l (Ok v) = IsTrue (is_plain v) ⊎ IsTrue (points_within l v (only_base l v))
StaysWithin l (Err kind) = Unit {0}

-- an operator with a pointer among its operands: a count of elements was made from no address, and the pointer stays within its object
abbrev pub MovesWithin : Program → Layout → BinOp → CType → CType → Result Value Kind → Result Value Kind → Type 0
MovesWithin p l op left right (Err kind) b = Unit {0}
MovesWithin p l op left right (Ok a) (Err kind) = Unit {0}
MovesWithin p l op left right (Ok a) (Ok b) = StaysWithin l (on_pointers p l op left right a b)

abbrev pub CountIsPlain : CType → CType → Result Value Kind → Result Value Kind → Type 0
CountIsPlain (Pointer s) (Pointer t) a b = Unit {0}
CountIsPlain (Pointer s) right a b = IsPlain b
CountIsPlain left right a b = IsPlain a

-- differences and comparisons use both pointers as pointers
abbrev pub OnPointersTamely : Program → Layout → BinOp → CType → CType → Result Value Kind → Result Value Kind → Type 0
OnPointersTamely p l Add left right a b = CountIsPlain left right a b × MovesWithin p l Add left right a b
OnPointersTamely p l Sub left right a b = CountIsPlain left right a b × MovesWithin p l Sub left right a b
OnPointersTamely p l op left right a b = Unit {0}

-- a pointer may become one of another type, or a truth (C11 6.3.1.2p1); an integer is made from a plain number alone
abbrev pub ConvertsTamely : CType → Held → Type 0
ConvertsTamely (Integer bool_kind) h = Unit {0}
ConvertsTamely (Integer kind) h = IsPlain (used h)
ConvertsTamely t h = Unit {0}

abbrev pub IncreasesTamely : Program → Layout → Bool → CType → Result Value Kind → Type 0
IncreasesTamely p l up (Pointer to) (Ok v) = StaysWithin l (increased p l up (Pointer to) v)
IncreasesTamely p l up t (Ok v) = IsTrue (is_plain v)
IncreasesTamely p l up t (Err kind) = Unit {0}

-- ---- loads

-- what a load reads is without addresses, or one pointer whole
abbrev pub ReadsTamely : Layout → List Cell → Type 0
ReadsTamely l cells = AreWhole l.machine cells

abbrev pub LoadsFrom : Layout → Memory → Scalar → Value → Option ℕ → Type 0
LoadsFrom l m type at None = Unit {0}
LoadsFrom l m type at (Some base) = ReadsTamely l (cells_at m base (8 * offset_in l base at) (bits_of_scalar type l.machine))

abbrev pub LoadsTamely : Layout → Memory → Scalar → Held → Type 0
LoadsTamely l m type (Usable at) = LoadsFrom l m type at (reached l m (size_of_scalar type l.machine) at)
LoadsTamely l m type (Part cells) = ReadsTamely l (take (bits_of_scalar type l.machine) cells)
LoadsTamely l m type h = Unit {0}

abbrev pub CellsTamely : Layout → Result (List Cell) Kind → Type 0
CellsTamely l (Ok cells) = ReadsTamely l cells
CellsTamely l (Err kind) = Unit {0}

-- ---- steps
module _ (p : Program) (l : Layout) where
  -- An item of work uses what is held tamely. What isn't listed keeps or passes values, finds places, goes through pointers or tests truths.
  abbrev pub UsesTamely : Memory → Work → List Held → Type 0
  UsesTamely m (Apply op kind) (b ∷ a ∷ held) = IsPlain (used a) × IsPlain (used b)
  UsesTamely m (ApplyOne op kind) (h ∷ held) = IsPlain (used h)
  UsesTamely m (ApplyPointers op left right) (b ∷ a ∷ held) = OnPointersTamely p l op left right (used a) (used b)
  UsesTamely m (Change t) (h ∷ held) = ConvertsTamely t h
  UsesTamely m (Increase up t) (h ∷ held) = IncreasesTamely p l up t (used h)
  UsesTamely m (Index t n end) (i ∷ place ∷ held) = IsPlain (used i)
  UsesTamely m (IndexedBy t n end) (place ∷ i ∷ held) = IsPlain (used i)
  UsesTamely m (Select id body) (h ∷ held) = IsPlain (used h)
  UsesTamely m (Fetch type) (at ∷ held) = LoadsTamely l m type at
  UsesTamely m (FetchCells t) (place ∷ held) = CellsTamely l (cells_read p l m t place)
  UsesTamely m (CopyCells named t) (source ∷ to ∷ held) = CellsTamely l (cells_read p l m t source)
  UsesTamely m work held = Unit {0}

  abbrev pub GoesTamely : Memory → List Work → List Held → Type 0
  GoesTamely m [] held = Unit {0}
  GoesTamely m (work ∷ rest) held = UsesTamely m work held

  -- A state from which the next step is no choice, where all pointers are whole and stay pointers. So what is stored, initialised and passed
  -- is whole: it stands in the memory of the next state.
  pub record IsTame (s : State) : Type 0 where
    pub memory : IsWholeMemory l.machine s.memory
    pub uses : GoesTamely s.memory s.control s.held
    pub choice : is_choice s.control ≡ false

  abbrev pub AreTame : List State → Type 0
  AreTame [] = Unit {0}
  AreTame (s ∷ more) = IsTame s × AreTame more

  -- a run each of whose states is tame
  pub record IsTameRun (first : State) (run : List State) : Type 0 where
    pub follows : IsRun p l first run
    pub begins : IsTame first
    pub others : AreTame run
