-- What memory holds bit by bit, and the values that expressions have.
use Rattle.std.specs.Prelude.{ℕ, suc, ◌^◌, ◌==◌, Bool, true, false, cond, List, [], ◌∷◌, map, ℤ, Result, Ok, Err}
use Rattle.std.specs.Ordering.{nat_cmp}
use Rattle.std.specs.FinSet.{FinSet, empty, contains, insert, union, len}
use Rattle.std.specs.List.{list_any}
use Rattle.c_base.specs.declared.integer.Machine.{Machine}
use Rattle.c_base.specs.declared.kind.Kind.{Kind}
use Rattle.c_base.specs.declared.kind.Kind.TheVariants.{Initialization, DanglingPointer}
use Rattle.c_base.specs.Integers.{bits_from, number_of_bits, in_byte_order, residue}
use Rattle.c_memory.specs.declared.scalar.Scalar.{Scalar}
use Rattle.c_memory.specs.Scalars.{scalar_in}

-- the bases from whose addresses a bit or a value was made
abbrev pub Provenance : Type 0
Provenance = FinSet nat_cmp

abbrev pub nowhere : Provenance
nowhere = empty

abbrev pub only : ℕ → Provenance
only base = insert empty base

-- One bit of memory: not written since its object was born (C11 6.7.9p10), left from a pointer whose object has died (6.2.4p2), or a
-- bit, with its provenance and its index in the value that was stored. That index is 0 where the provenance is empty.
pub data Cell : Type 0 where
  Uninit : Cell
  Dead : Cell
  Bit : Bool → Provenance → ℕ → Cell

-- a scalar value: its number, and its provenance where it was made from addresses
pub record Value : Type 0 where
  pub number : ℤ
  pub provenance : Provenance

-- a number that was made from no address
abbrev pub plain : ℤ → Value
plain n = record { number = n; provenance = nowhere }

-- the index of a bit in its value is kept for provenance alone
abbrev pub piece_of : Provenance → ℕ → ℕ
piece_of p i = cond (len p == 0) 0 i

unfoldable pub cells_from : Provenance → ℕ → List Bool → List Cell
cells_from p i [] = []
cells_from p i (b ∷ bs) = Bit b p (piece_of p i) ∷ cells_from p (suc i) bs

-- what a store of so many bits writes (C11 6.2.6.1p4)
abbrev pub cells_of : Machine → ℕ → Value → List Cell
cells_of machine bits v = in_byte_order machine (cells_from v.provenance 0 (bits_from (residue (2 ^ bits) v.number) bits))

abbrev pub is_uninit : Cell → Bool
is_uninit Uninit = true
is_uninit Dead = false
is_uninit (Bit b p i) = false

abbrev pub is_dead : Cell → Bool
is_dead Uninit = false
is_dead Dead = true
is_dead (Bit b p i) = false

abbrev pub bit_of : Cell → Bool
bit_of Uninit = false
bit_of Dead = false
bit_of (Bit b p i) = b

abbrev pub provenance_of : Cell → Provenance
provenance_of Uninit = nowhere
provenance_of Dead = nowhere
provenance_of (Bit b p i) = p

unfoldable pub united : List Cell → Provenance
united [] = nowhere
united (c ∷ cs) = union (united cs) (provenance_of c)

-- what a load of a scalar type makes of the cells that it reads: a bit that was never written is named before one that is dead
unfoldable pub value_in : Machine → Scalar → List Cell → Result Value Kind
value_in machine type cells =
    cond (list_any is_uninit cells) (Err Initialization)
    (cond (list_any is_dead cells) (Err DanglingPointer)
    (Ok (record { number = scalar_in type machine (number_of_bits (map bit_of (in_byte_order machine cells))); provenance = united cells })))

-- the bases die: a bit that was made from the address of one of them is dead from then on
abbrev pub wither : List ℕ → Cell → Cell
wither dying Uninit = Uninit
wither dying Dead = Dead
wither dying (Bit b p i) = cond (list_any (contains p) dying) Dead (Bit b p i)
