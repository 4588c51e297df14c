-- Where pointers stand whole in memory: all bits of one address together, in order.
use Rattle.std.specs.Prelude.{ℕ, ◌+◌, ◌<◌, ◌≤◌, ◌≡◌, ◌≢◌, List, map, take, drop, slice_get, Option, None, Some}
use Rattle.std.specs.List.{AllByRecursion}
use Rattle.std.specs.FinSet.{len}
use Rattle.c_base.specs.declared.integer.Machine.{Machine}
use Rattle.c_base.specs.Integers.{in_byte_order}
use Rattle.c_memory.specs.declared.scalar.Scalar.TheVariants.{Pointer}
use Rattle.c_memory.specs.Scalars.{bits_of_scalar}
use Rattle.c_memory.specs.Values.{Cell, Uninit, Dead, Bit, only}
use Rattle.c_memory.specs.Memories.{Memory}
use Rattle.c_program.specs.Syntax.{numbers_from}

abbrev pub pointer_bits : Machine → ℕ
pointer_bits machine = bits_of_scalar Pointer machine

-- the index of a bit in the value that was stored
abbrev pub index_of : Cell → ℕ
index_of Uninit = 0
index_of Dead = 0
index_of (Bit bit p i) = i

-- a bit that was made from the address of this base alone
abbrev pub IsMadeFrom : ℕ → Cell → Type 0
IsMadeFrom base Uninit = ⊥
IsMadeFrom base Dead = ⊥
IsMadeFrom base (Bit bit p i) = p ≡ only base

-- the bits of one pointer into the base, each at its place
pub record IsGroup (machine : Machine) (base : ℕ) (cells : List Cell) : Type 0 where
  pub order : map index_of cells ≡ in_byte_order machine (numbers_from 0 (pointer_bits machine))
  pub each : AllByRecursion (IsMadeFrom base) cells

-- such a group begins at bit `start` of the cells
abbrev pub BeginsGroup : Machine → List Cell → ℕ → ℕ → Type 0
BeginsGroup machine cells start base = IsGroup machine base (take (pointer_bits machine) (drop start cells))

-- a group of the cells that has bit i
pub record IsInGroup (machine : Machine) (cells : List Cell) (i start : ℕ) : Type 0 where
  pub low : start ≤ i
  pub high : i < start + pointer_bits machine
  pub base : ℕ
  pub group : BeginsGroup machine cells start base

-- a bit that was made from addresses
abbrev pub HasProvenance : Option Cell → Type 0
HasProvenance None = ⊥
HasProvenance (Some Uninit) = ⊥
HasProvenance (Some Dead) = ⊥
HasProvenance (Some (Bit bit p i)) = len p ≢ 0

-- each bit that was made from an address lies in a group, and no bit lies in two
pub record AreWhole (machine : Machine) (cells : List Cell) : Type 0 where
  pub grouped : (i : ℕ) → HasProvenance (slice_get cells i) → (start : ℕ) × IsInGroup machine cells i start
  pub once : (i start other : ℕ) → IsInGroup machine cells i start → IsInGroup machine cells i other → start ≡ other

abbrev pub IsWholeBase : Machine → Option (List Cell) → Type 0
IsWholeBase machine None = Unit {0}
IsWholeBase machine (Some cells) = AreWhole machine cells

-- all live bases hold whole pointers
abbrev pub IsWholeMemory : Machine → Memory → Type 0
IsWholeMemory machine m = (base : ℕ) → IsWholeBase machine (m base)
