-- What holds of loads and stores in every layout (C11 6.2.6.1, 6.5.3.2, 6.5.16).
use Rattle.std.specs.Prelude.{ℕ, ◌+◌, ◌*◌, ◌<◌, ◌≤◌, ◌≡◌, ◌≢◌, ◌⊎◌, IsTrue, List, [], length, Some, Ok, slice_get, unwrap_or}
use Rattle.c_base.specs.Integers.{FitsKind}
use Rattle.c_memory.specs.declared.scalar.Scalar.{Scalar}
use Rattle.c_memory.specs.Scalars.{kind_in_memory, size_of_scalar, bits_of_scalar}
use Rattle.c_memory.specs.Values.{Cell, Value}
use Rattle.c_memory.specs.Layouts.{Layout}
use Rattle.c_memory.specs.Memories.{Memory, is_reached, reached, offset_in, loaded, stored}
use Rattle.c_program.specs.Syntax.{Program, IsLayout}

-- an access of some bytes fits one base at most, so that the base that it reaches is the only one
abbrev pub OneBaseFits : Program → Type 0
OneBaseFits p =
    (l : Layout) → IsLayout p l → (m : Memory) (bytes : ℕ) (at : Value) (b c : ℕ) → 0 < bytes → b < length p.bases → c < length p.bases →
    IsTrue (is_reached l m bytes at b) → IsTrue (is_reached l m bytes at c) → b ≡ c

-- each live base has the cells of its bytes
abbrev pub IsWhole : Layout → Memory → Type 0
IsWhole l m = (base : ℕ) (cells : List Cell) → m base ≡ Some cells → length cells ≡ 8 * l.size base

-- a load after a store of the same type at the same place gives the value, where it is one of the type
abbrev pub LoadsStored : Layout → Type 0
LoadsStored l =
    (m after : Memory) (type : Scalar) (at v : Value) → IsWhole l m → FitsKind (kind_in_memory type) l.machine v.number →
    stored l m type at v ≡ Ok after → loaded l after type at ≡ Ok v

-- no bit changed but `count` of them from number `first` on in one base
pub record IsChangedAt (m after : Memory) (base first count : ℕ) : Type 0 where
  pub others : (other : ℕ) → other ≢ base → after other ≡ m other
  pub outside : (i : ℕ) → (i < first) ⊎ (first + count ≤ i) → slice_get (unwrap_or (after base) []) i ≡ slice_get (unwrap_or (m base) []) i

-- a store changes no bit outside
abbrev pub StoresWithin : Layout → Type 0
StoresWithin l =
    (m after : Memory) (type : Scalar) (at v : Value) (base : ℕ) → IsWhole l m → stored l m type at v ≡ Ok after →
    reached l m (size_of_scalar type l.machine) at ≡ Some base → IsChangedAt m after base (8 * offset_in l base at) (bits_of_scalar type l.machine)
