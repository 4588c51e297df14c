-- What the row of a memory describes.
use Rattle.std.specs.Prelude.{◌≡◌, ℕ, ◌*◌, ◌<◌, Bool, true, List, length, Option, Some}
use Rattle.c_memory.specs.Layouts.{Layout}
use Rattle.c_memory.specs.Memories.{Memory}
use Rattle.c_memory.specs.Rows.{Entry as RowEntry, Describes}
use Rattle.c_memory.specs.Values.{Cell}
use Rattle.cell_laws.specs.Elements.{width}
use Rattle.avalue_base.specs.Values.{Cellv}
use Rattle.avalue_base.specs.Meaning.{Allows}
use Rattle.memory_maps.specs.Memories.{Maps, MapsOf}
use Rattle.memory_maps.specs.Meaning.{Stands, DescribesMemory}
use Rattle.ptree.specs.Entries.{get}
use Rattle.memory_rows.specs.MemoryRows.{EachShown}

-- each live object that is shown has as many bits as its bytes in the layout
abbrev pub HaveSizes : Layout → (ℕ → Bool) → Memory → Type 0
HaveSizes l shown objects = (base : ℕ) (cells : List Cell) → shown base ≡ true → objects base ≡ Some cells → length cells ≡ 8 * l.size base

-- no live object that is shown is empty, nor is its map
pub record HaveBits (shown : ℕ → Bool) (maps : Maps Cellv) (objects : Memory) : Type 0 where
  pub live : (base : ℕ) (cells : List Cell) → shown base ≡ true → objects base ≡ Some cells → 0 < length cells
  pub mapped : EachShown shown (λ k x. 0 < width x) maps

-- the row describes each memory that the maps describe, in each layout
abbrev pub IsSoundRow : (ℕ → Bool) → MapsOf Cellv → List RowEntry → Type 0
IsSoundRow shown m row =
    (l : Layout) (objects : Memory) (held : ℕ → Option (List Cell)) → HaveSizes l shown objects → DescribesMemory (Allows l) m objects held →
    Describes l shown row objects

-- and of what is shown it describes no more than they do
abbrev pub IsExactRow : (ℕ → Bool) → MapsOf Cellv → List RowEntry → Type 0
IsExactRow shown m row =
    (l : Layout) (objects : Memory) → HaveSizes l shown objects → HaveBits shown m.0 objects → Describes l shown row objects →
    (base : ℕ) → shown base ≡ true → Stands (Allows l) (get m.0 base) (objects base)
