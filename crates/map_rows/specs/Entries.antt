-- The entries of a printed row that a map's ranges are.
use Rattle.std.specs.Prelude.{ℕ, ◌+◌, ◌-◌, ◌*◌, cond, List, [], ◌∷◌, Option, None, Some}
use Rattle.c_memory.specs.Rows.{Entry as RowEntry}
use Rattle.cell_runs.specs.declared.runs.Run.{Run}
use Rattle.avalue_base.specs.Values.{Cellv, row_cell}
use Rattle.avalue_base.specs.Hues.{blank}
use Rattle.avalue.specs.declared.row.Entry.{Entry}

-- the plain entry that the code's entry stands for
abbrev pub plain_entry : Entry → RowEntry
plain_entry e = record { base = e.base.0; low = e.low; high = e.high; size = e.size; cell = row_cell e.cell }

-- bits without values have no size
abbrev pub size_in : Run Cellv → Option ℕ
size_in r = cond (blank r.cell) None (Some r.bits)

-- a range whose first bit is `low`
abbrev pub range_entry : ℕ → ℕ → Run Cellv → RowEntry
range_entry base low r = record { base = base; low = low; high = low + r.bits * r.count - 1; size = size_in r; cell = row_cell r.cell }

-- ranges that follow each other
unfoldable pub row_from : ℕ → ℕ → List (Run Cellv) → List RowEntry
row_from base low [] = []
row_from base low (r ∷ rs) = range_entry base low r ∷ row_from base (low + r.bits * r.count) rs
