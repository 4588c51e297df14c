-- A layout that a program has wherever it has one: its bases one behind the other.
use Rattle.std.specs.Prelude.{ℕ, ◌+◌, ◌<◌, Bool, false, List, [], ◌∷◌, length, take, Option, None, Some}
use Rattle.c_memory.specs.Layouts.{Layout, last_address}
use Rattle.c_program.specs.Syntax.{Base, base_at, Program, numbers_from, IsLayout}

-- the bytes of bases together
abbrev pub bytes_of : List Base → ℕ
bytes_of [] = 0
bytes_of (b ∷ bs) = b.size + bytes_of bs

abbrev pub size_at : Option Base → ℕ
size_at None = 0
size_at (Some b) = b.size

abbrev pub is_readonly_at : Option Base → Bool
is_readonly_at None = false
is_readonly_at (Some b) = b.readonly

-- each base stands behind those with smaller numbers, and the first one at address 1
abbrev pub packed : Program → Layout
packed p = record {
  machine = p.machine;
  address = λ n. 1 + bytes_of (take n p.bases);
  size = λ n. size_at (base_at p.bases n);
  readonly = λ n. is_readonly_at (base_at p.bases n);
  bases = numbers_from 0 (length p.bases);
}

-- the program has a layout
pub record HasLayout (p : Program) : Type 0 where
  pub layout : Layout
  pub is : IsLayout p layout

-- the bases together need less than the last address
abbrev pub HasRoom : Program → Type 0
HasRoom p = bytes_of p.bases < last_address p.machine
