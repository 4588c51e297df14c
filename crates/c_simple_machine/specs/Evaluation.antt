-- What expressions without effects give, and where places are: by the very functions of memory and values by which the machine of all of C
-- goes. A load of a volatile object gives any value, so this is a relation. The left operand stops first.
use Rattle.std.specs.Prelude.{ℕ, ◌≡◌, Bool, true, false, List, [], ◌∷◌, ℤ, Option, None, Some, unwrap_or, Result, Ok, Err}
use Rattle.c_base.specs.declared.kind.Kind.{Kind}
use Rattle.c_base.specs.declared.kind.Kind.TheVariants.{Initialization, MemAccess}
use Rattle.c_base.specs.declared.operators.BinOp.{BinOp}
use Rattle.c_base.specs.declared.operators.UnOp.{UnOp}
use Rattle.c_base.specs.Integers.{is_signed, width_of, FitsBits}
use Rattle.c_memory.specs.declared.scalar.Scalar.{Scalar}
use Rattle.c_memory.specs.Values.{Value, plain, Cell}
use Rattle.c_memory.specs.Layouts.{Layout}
use Rattle.c_memory.specs.Memories.{Memory, address_of, loaded, reached}
use Rattle.c_memory.specs.Operations.{applied_to}
use Rattle.c_memory.specs.Scalars.{kind_in_memory, size_of_scalar}
use Rattle.c_types.specs.Types.{CType, Void, Integer, Pointer, Array, Composite, Function, scalar_of}
use Rattle.c_pointers.specs.Conversions.{applied_to_one}
use Rattle.c_program.specs.Syntax.{Program}
use Rattle.c_machine.specs.Work.{Held as Holds, Usable, Unusable, Cells, Absent, Part, used}
use Rattle.c_machine.specs.Parts.{member_place, element_place, part_value, cells_read, converted, on_pointers}
use Rattle.c_simple.specs.Trees.{Lvalue, Variable, Slot, Pointed, Member, Element, Expr, Number, Address, Load, Held, Unary, Binary, Convert}
use Rattle.c_simple_machine.specs.Types.{expr_type, place_type, elements_of, is_volatile}

-- ---- what is held

-- what an evaluation gives, as a scalar that is used
abbrev pub used_result : Result Holds Kind → Result Value Kind
used_result (Ok h) = used h
used_result (Err kind) = Err kind

abbrev pub as_held : Result Value Kind → Result Holds Kind
as_held (Ok v) = Ok (Usable v)
as_held (Err kind) = Err kind

-- An empty slot is never asked.
abbrev pub in_slot : Option Holds → Result Holds Kind
in_slot None = Err Initialization
in_slot (Some h) = Ok h

-- the cells in a slot as a place; a scalar in a slot has none
abbrev pub slot_place : Result Holds Kind → Result Holds Kind
slot_place (Err kind) = Err kind
slot_place (Ok (Cells cells)) = Ok (Part cells)
slot_place (Ok (Unusable kind)) = Err kind
slot_place (Ok h) = Err Initialization

-- ---- operators

abbrev pub with_one : (Value → Result Value Kind) → Result Value Kind → Result Value Kind
with_one f (Ok v) = f v
with_one f (Err kind) = Err kind

abbrev pub with_two : (Value → Value → Result Value Kind) → Result Value Kind → Result Value Kind → Result Value Kind
with_two f (Ok a) (Ok b) = f a b
with_two f (Ok a) (Err kind) = Err kind
with_two f (Err kind) b = Err kind

abbrev pub one_operator : Layout → UnOp → CType → Value → Result Value Kind
one_operator l op (Integer kind) v = applied_to_one op kind l.machine v
one_operator l op t v = Ok v

abbrev pub two_operator : Program → Layout → BinOp → CType → CType → Value → Value → Result Value Kind
two_operator p l op (Integer kind) (Integer other) a b = applied_to op kind l.machine a b
two_operator p l op left right a b = on_pointers p l op left right a b

abbrev pub with_conversion : Layout → CType → Result Value Kind → Result Holds Kind
with_conversion l t (Ok v) = Ok (converted l t v)
with_conversion l t (Err kind) = Err kind

-- a conversion to a scalar type uses the value; what is converted to void is discarded
abbrev pub conversion : Layout → CType → Result Holds Kind → Result Holds Kind
conversion l t (Err kind) = Err kind
conversion l Void (Ok h) = Ok Absent
conversion l (Integer kind) (Ok h) = with_conversion l (Integer kind) (used h)
conversion l (Pointer to) (Ok h) = with_conversion l (Pointer to) (used h)
conversion l (Array of count) (Ok h) = Ok h
conversion l (Composite n) (Ok h) = Ok h
conversion l (Function result params variadic) (Ok h) = Ok h

-- ---- places

abbrev pub with_member : Program → Layout → ℕ → ℕ → Result Holds Kind → Result Holds Kind
with_member p l c m (Ok place) = Ok (member_place p l c m place)
with_member p l c m (Err kind) = Err kind

-- an element of an array of this type, of how many, and whether its end may be meant; the place is found before the index
abbrev pub with_index : Program → Layout → CType × ℕ → Bool → Result Holds Kind → Result Value Kind → Result Holds Kind
with_index p l elements end (Err kind) i = Err kind
with_index p l elements end (Ok place) (Err kind) = Err kind
with_index p l elements end (Ok place) (Ok i) = element_place p l elements.0 elements.1 end place i

-- ---- loads

abbrev pub loaded_at : Layout → Memory → Scalar → Holds → Result Value Kind
loaded_at l m type (Usable at) = loaded l m type at
loaded_at l m type (Part cells) = part_value l type cells
loaded_at l m type (Unusable kind) = Err kind
loaded_at l m type (Cells cells) = Err Initialization
loaded_at l m type Absent = Err Initialization

abbrev pub with_cells : Result (List Cell) Kind → Result Holds Kind
with_cells (Ok cells) = Ok (Cells cells)
with_cells (Err kind) = Err kind

abbrev pub loaded_by : Program → Layout → Memory → Option Scalar → CType → Result Holds Kind → Result Holds Kind
loaded_by p l m type t (Err kind) = Err kind
loaded_by p l m (Some type) t (Ok place) = as_held (loaded_at l m type place)
loaded_by p l m None t (Ok place) = with_cells (cells_read p l m t place)

-- any value of the type, where an object is there
abbrev pub Samples : Layout → Scalar → Option ℕ → Result Holds Kind → Type 0
Samples l type None r = r ≡ Err MemAccess
Samples l type (Some base) r =
    (n : ℤ) × FitsBits (is_signed (kind_in_memory type)) (width_of (kind_in_memory type) l.machine) n × (r ≡ Ok (Usable (plain n)))

abbrev pub SamplesAt : Layout → Memory → Scalar → Result Value Kind → Result Holds Kind → Type 0
SamplesAt l m type (Err kind) r = r ≡ Err kind
SamplesAt l m type (Ok at) r = Samples l type (reached l m (size_of_scalar type l.machine) at) r

-- a load of a scalar type is a choice where its object is volatile, which is said first
abbrev pub Loads : Program → Layout → Memory → Bool → Option Scalar → CType → Result Holds Kind → Result Holds Kind → Type 0
Loads p l m true (Some type) t place r = SamplesAt l m type (used_result place) r
Loads p l m true None t place r = r ≡ loaded_by p l m None t place
Loads p l m false type t place r = r ≡ loaded_by p l m type t place

abbrev pub LoadsAs : Program → Layout → Memory → Bool → CType → Result Holds Kind → Result Holds Kind → Type 0
LoadsAs p l m volatile t place r = Loads p l m volatile (scalar_of t) t place r

abbrev pub in_front : Result Holds Kind → Result (List Holds) Kind → Result (List Holds) Kind
in_front (Err kind) others = Err kind
in_front (Ok h) (Err kind) = Err kind
in_front (Ok h) (Ok others) = Ok (h ∷ others)

-- ---- expressions and places, with what the slots hold, and of which types
module _ (p : Program) (l : Layout) (types : List (ℕ × CType)) (slots : ℕ → Option Holds) (m : Memory) where
  abbrev mutual
    pub Gives : Expr → Result Holds Kind → Type 0
    Gives (Number kind n) r = r ≡ Ok (Usable (plain n))
    Gives (Address q) r = IsAt true q r
    Gives (Load q) r = (at : Result Holds Kind) × IsAt false q at × LoadsAs p l m (is_volatile p q) (unwrap_or (place_type p types q) Void) at r
    Gives (Held slot) r = r ≡ in_slot (slots slot)
    Gives (Unary op t e) r = (v : Result Holds Kind) × Gives e v × (r ≡ as_held (with_one (one_operator l op t) (used_result v)))
    Gives (Binary op t a b) r =
        (v : Result Holds Kind) × Gives a v
        × ((w : Result Holds Kind) × Gives b w
        × (r ≡ as_held (with_two (two_operator p l op t (unwrap_or (expr_type p types b) Void)) (used_result v) (used_result w))))
    Gives (Convert t e) r = (v : Result Holds Kind) × Gives e v × (r ≡ conversion l t v)

    -- where a place is: an address, or cells of a slot; the flag tells whether the end of an array may be meant, directly under `&`
    pub IsAt : Bool → Lvalue → Result Holds Kind → Type 0
    IsAt end (Variable base) r = r ≡ Ok (Usable (address_of l base))
    IsAt end (Slot slot t) r = r ≡ slot_place (in_slot (slots slot))
    IsAt end (Pointed e t volatile) r = (v : Result Holds Kind) × Gives e v × (r ≡ as_held (used_result v))
    IsAt end (Member q c n) r = (at : Result Holds Kind) × IsAt false q at × (r ≡ with_member p l c n at)
    IsAt end (Element q e) r =
        (at : Result Holds Kind) × IsAt false q at
        × ((i : Result Holds Kind) × Gives e i × (r ≡ with_index p l (elements_of (place_type p types q)) end at (used_result i)))

  -- several expressions in order, up to the first that stops
  abbrev pub GiveAll : List Expr → Result (List Holds) Kind → Type 0
  GiveAll [] r = r ≡ Ok []
  GiveAll (e ∷ more) r =
      (v : Result Holds Kind) × Gives e v × ((others : Result (List Holds) Kind) × GiveAll more others × (r ≡ in_front v others))
