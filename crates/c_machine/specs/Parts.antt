-- What the machine's steps make of held values and places.
use Rattle.std.specs.Prelude.{ℕ, zero, suc, ◌*◌, ◌&&◌, Bool, true, false, cond, List, [], ◌∷◌, take, drop, ℤ, pos, int_le, int_lt, nat_lt, unsigned_abs, ◌+ℤ◌, Option, None, Some, Result, Ok, Err}
use Rattle.c_base.specs.declared.integer.IntKind.{IntKind}
use Rattle.c_base.specs.declared.integer.IntKind.TheVariants.{Int}
use Rattle.c_base.specs.declared.operators.BinOp.{BinOp}
use Rattle.c_base.specs.declared.operators.BinOp.TheVariants.{Add, Sub}
use Rattle.c_base.specs.declared.kind.Kind.{Kind}
use Rattle.c_base.specs.declared.kind.Kind.TheVariants.{Initialization, IndexBound, FunctionPointer}
use Rattle.c_base.specs.Integers.{size_of_kind}
use Rattle.c_base.specs.Operators.{is_zero}
use Rattle.c_memory.specs.declared.scalar.Scalar.{Scalar}
use Rattle.c_memory.specs.Scalars.{bits_of_scalar}
use Rattle.c_memory.specs.Values.{Value, plain, Cell, value_in}
use Rattle.c_memory.specs.Layouts.{Layout}
use Rattle.c_memory.specs.Memories.{Memory}
use Rattle.c_memory.specs.Operations.{applied_to}
use Rattle.c_types.specs.Types.{CType, Void, Integer, Pointer, Array, Composite, Function, scalar_of}
use Rattle.c_types.specs.Sizes.{size, offset}
use Rattle.c_pointers.specs.Conversions.{address_number, converted_to, converted_value}
use Rattle.c_pointers.specs.Addresses.{only_base, distance}
use Rattle.c_pointers.specs.Pointers.{moved, moved_back, difference, comparison, element_at}
use Rattle.c_effects.specs.Ranges.{read}
use Rattle.c_effects.specs.Passing.{Argument, Whole, Parts}
use Rattle.c_program.specs.Syntax.{base_at, Program}
use Rattle.c_program.specs.Typing.{is_pointer}
use Rattle.c_program.specs.StaticCalls.{is_function_of}
use Rattle.c_machine.specs.Work.{Held, Usable, Unusable, Cells, Absent, Part}

-- ---- places

-- held cells as a place
abbrev pub place_of_cells : Held → Held
place_of_cells (Usable v) = Usable v
place_of_cells (Unusable kind) = Unusable kind
place_of_cells (Cells cells) = Part cells
place_of_cells Absent = Absent
place_of_cells (Part cells) = Part cells

-- so many bytes on
abbrev pub place_behind : Layout → ℕ → Held → Held
place_behind l bytes (Usable v) = Usable (record { number = address_number l.machine (v.number +ℤ pos bytes); provenance = v.provenance })
place_behind l bytes (Unusable kind) = Unusable kind
place_behind l bytes (Cells cells) = Cells cells
place_behind l bytes Absent = Absent
place_behind l bytes (Part cells) = Part (drop (8 * bytes) cells)

-- a member of the struct or union at a place (C11 6.5.2.3)
abbrev pub member_place : Program → Layout → ℕ → ℕ → Held → Held
member_place p l c m place = place_behind l (offset p.composites l.machine c m) place

abbrev pub is_index : ℕ → Bool → ℤ → Bool
is_index count end i = int_le (pos 0) i && cond end (int_le i (pos count)) (int_lt i (pos count))

-- an element of the array at a place, with the index
abbrev pub element_in : Layout → ℕ → ℕ → Bool → Held → Value → Result Held Kind
element_in l bytes count end (Usable v) i = by_element (element_at l.machine bytes count end v i)
  where
    by_element : Result Value Kind → Result Held Kind
    by_element (Ok at) = Ok (Usable at)
    by_element (Err kind) = Err kind
element_in l bytes count end (Unusable kind) i = Err kind
element_in l bytes count end (Cells cells) i = Err Initialization
element_in l bytes count end Absent i = Err Initialization
element_in l bytes count end (Part cells) i =
    cond (is_index count end i.number) (Ok (Part (drop (8 * (bytes * unsigned_abs i.number)) cells))) (Err IndexBound)

abbrev pub element_place : Program → Layout → CType → ℕ → Bool → Held → Value → Result Held Kind
element_place p l t count end place i = element_in l (size p.composites l.machine t) count end place i

-- a scalar in the cells of a value without a place
abbrev pub part_value : Layout → Scalar → List Cell → Result Value Kind
part_value l type cells = value_in l.machine type (take (bits_of_scalar type l.machine) cells)

-- the cells of a struct or union at a place
abbrev pub cells_in : Layout → Memory → ℕ → Held → Result (List Cell) Kind
cells_in l m bytes (Usable at) = read l m bytes at
cells_in l m bytes (Unusable kind) = Err kind
cells_in l m bytes (Cells cells) = Err Initialization
cells_in l m bytes Absent = Err Initialization
cells_in l m bytes (Part cells) = Ok (take (8 * bytes) cells)

abbrev pub cells_read : Program → Layout → Memory → CType → Held → Result (List Cell) Kind
cells_read p l m t place = cells_in l m (size p.composites l.machine t) place

-- ---- values

abbrev pub converted_by : Layout → Option Scalar → Value → Held
converted_by l None v = Absent
converted_by l (Some type) v = Usable (converted_to type l.machine v)

-- a value converted to a scalar type, or to void
abbrev pub converted : Layout → CType → Value → Held
converted l t v = converted_by l (scalar_of t) v

-- operands below int are of int (C11 6.3.1.1p2)
abbrev pub promoted : Layout → IntKind → IntKind
promoted l kind = cond (nat_lt (size_of_kind kind l.machine) (size_of_kind Int l.machine)) Int kind

abbrev pub signed_op : Bool → BinOp
signed_op true = Add
signed_op false = Sub

abbrev pub in_kind : Layout → IntKind → Result Value Kind → Result Value Kind
in_kind l kind (Ok v) = Ok (converted_value kind l.machine v)
in_kind l kind (Err k) = Err k

abbrev pub moved_by : Bool → Layout → ℕ → Value → Value
moved_by true l bytes v = moved l.machine bytes v (plain (pos 1))
moved_by false l bytes v = moved_back l.machine bytes v (plain (pos 1))

-- a value of the type with 1 added or subtracted (C11 6.5.3.1p2, 6.5.2.4p2)
abbrev pub increased : Program → Layout → Bool → CType → Value → Result Value Kind
increased p l up (Integer kind) v = in_kind l kind (applied_to (signed_op up) (promoted l kind) l.machine v (plain (pos 1)))
increased p l up (Pointer to) v = Ok (moved_by up l (size p.composites l.machine to) v)
increased p l up Void v = Ok v
increased p l up (Array of n) v = Ok v
increased p l up (Composite n) v = Ok v
increased p l up (Function result params variadic) v = Ok v

abbrev pub target_size : Program → Layout → CType → ℕ
target_size p l (Pointer to) = size p.composites l.machine to
target_size p l t = 0

-- an operator with a pointer among its operands, of these types (C11 6.5.6, 6.5.8, 6.5.9)
abbrev pub on_pointers : Program → Layout → BinOp → CType → CType → Value → Value → Result Value Kind
on_pointers p l Add left right a b =
    cond (is_pointer left) (Ok (moved l.machine (target_size p l left) a b)) (Ok (moved l.machine (target_size p l right) b a))
on_pointers p l Sub left right a b =
    cond (is_pointer right) (difference l (target_size p l left) a b) (Ok (moved_back l.machine (target_size p l left) a b))
on_pointers p l op left right a b = comparison op l a b

-- ---- calls

abbrev pub function_from : Program → Layout → CType → Value → Option ℕ → Result ℕ Kind
function_from p l t v None = Err FunctionPointer
function_from p l t v (Some f) = cond (is_function_of t (base_at p.bases f) && is_zero (distance l f v)) (Ok f) (Err FunctionPointer)

-- the function of a compatible type whose address the value is (C11 6.5.2.2p9)
abbrev pub called_function : Program → Layout → CType → Value → Result ℕ Kind
called_function p l t v = function_from p l t v (only_base l v)

abbrev pub argument : Held → Result Argument Kind
argument (Usable v) = Ok (Whole v)
argument (Unusable kind) = Err kind
argument (Cells cells) = Ok (Parts cells)
argument Absent = Err Initialization
argument (Part cells) = Err Initialization

abbrev pub with_argument : Result Argument Kind → Result (List Argument) Kind → Result (List Argument) Kind
with_argument (Err kind) more = Err kind
with_argument (Ok a) (Err kind) = Err kind
with_argument (Ok a) (Ok more) = Ok (a ∷ more)

-- arguments are used in order
abbrev pub used_arguments : List Held → Result (List Argument) Kind
used_arguments [] = Ok []
used_arguments (h ∷ more) = with_argument (argument h) (used_arguments more)

-- what was held last, so many of it, the first of it first; and what is held below
abbrev pub split_held : ℕ → List Held → List Held → Option (List Held × List Held)
split_held zero last held = Some (last, held)
split_held (suc n) last [] = None
split_held (suc n) last (h ∷ held) = split_held n (h ∷ last) held
