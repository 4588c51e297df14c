-- Initial contents written into an object (C11 6.7.9).
use Rattle.std.specs.Prelude.{ℕ, zero, suc, ◌+◌, ◌*◌, List, [], ◌∷◌, ◌++◌, ℤ, pos, ◌+ℤ◌, Option, None, Some, option_map}
use Rattle.c_base.specs.declared.number.BaseId.{BaseId}
use Rattle.c_memory.specs.Values.{Cell, Value, plain, only, cells_of}
use Rattle.c_memory.specs.Layouts.{Layout}
use Rattle.c_memory.specs.Memories.{Memory, overwritten, with_base}
use Rattle.c_typed_stmt.specs.declared.init.ImageItem.{ImageItem}

-- a number, or so many bytes behind a base
abbrev pub item_value : Layout → ℤ → Option BaseId → Value
item_value l n None = plain n
item_value l n (Some base) = record { number = pos (l.address base.0) +ℤ n; provenance = only base.0 }

abbrev pub repeated : ℕ → List Cell → List Cell
repeated zero cells = []
repeated (suc count) cells = cells ++ repeated count cells

-- the cells of an item: equal elements one after the other
abbrev pub item_cells : Layout → ImageItem → List Cell
item_cells l i = repeated i.count (cells_of l.machine i.bits (item_value l i.number i.base))

abbrev pub with_items : Layout → List ImageItem → List Cell → List Cell
with_items l [] cells = cells
with_items l (i ∷ more) cells = with_items l more (overwritten cells i.low (item_cells l i))

-- the items are written into the base, and no other bit
abbrev pub pasted : Layout → ℕ → List ImageItem → Memory → Memory
pasted l base image m = with_base m base (option_map (with_items l image) (m base))
