-- The row of a memory. `shown` tells of each base whether rows have it: they have all but functions and string literals.
use Rattle.std.specs.Prelude.{◌≡◌, ℕ, Bool, true, cond, List, [], ◌∷◌, ◌++◌}
use Rattle.std.specs.List.{AllByRecursion}
use Rattle.c_memory.specs.Rows.{Entry as RowEntry}
use Rattle.cell_laws.specs.Elements.{Element}
use Rattle.cell_runs.specs.declared.runs.Run.{Run}
use Rattle.avalue_base.specs.Values.{Cellv}
use Rattle.offmap.specs.Maps.{AreRanges}
use Rattle.map_rows.specs.Entries.{row_from}
use Rattle.memory_maps.specs.Memories.{Maps}

-- of each map that is shown
abbrev pub EachShown : (ℕ → Bool) → (ℕ → List (Element Cellv) → Type 0) → Maps Cellv → Type 0
EachShown shown P maps = AllByRecursion (λ (e : ℕ × List (Element Cellv)). shown e.0 ≡ true → P e.0 e.1) maps

-- these are the ranges of each map that is shown
abbrev pub HaveRanges : (ℕ → Bool) → Maps Cellv → (ℕ → List (Run Cellv)) → Type 0
HaveRanges shown maps ranges = EachShown shown (λ k x. AreRanges x (ranges k)) maps

-- the ranges of a base as entries, if it is shown
abbrev pub entries_if : Bool → ℕ → List (Run Cellv) → List RowEntry
entries_if t base ranges = cond t (row_from base 0 ranges) []

-- the entries of one map after another, in the order of the bases
abbrev pub row_of : (ℕ → Bool) → (ℕ → List (Run Cellv)) → Maps Cellv → List RowEntry
row_of shown ranges [] = []
row_of shown ranges (e ∷ maps) = entries_if (shown e.0) e.0 (ranges e.0) ++ row_of shown ranges maps

-- a map that has ranges, as each has
pub record HasRanges (x : List (Element Cellv)) : Type 0 where
  pub ranges : List (Run Cellv)
  pub all : AreRanges x ranges
