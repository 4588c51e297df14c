-- Ranges of bytes that are read, written and copied cell by cell (C11 6.2.6.1p4, 6.5.16.1p3).
use Rattle.std.specs.Prelude.{ℕ, ◌*◌, ◌+◌, ◌==◌, nat_le, Bool, true, false, not, cond, ◌&&◌, ◌||◌, List, [], length, Option, None, Some, unwrap_or, Result, Ok, Err}
use Rattle.c_base.specs.declared.kind.Kind.{Kind}
use Rattle.c_base.specs.declared.kind.Kind.TheVariants.{MemAccess, Overlap}
use Rattle.c_memory.specs.declared.scalar.Scalar.{Scalar}
use Rattle.c_memory.specs.Scalars.{size_of_scalar, bits_of_scalar}
use Rattle.c_memory.specs.Values.{Cell, Value, cells_of}
use Rattle.c_memory.specs.Layouts.{Layout}
use Rattle.c_memory.specs.Memories.{Memory, reached, cells_at, offset_in, overwritten, with_base}

-- the cells of so many bytes behind the address, or why they can't be read
abbrev pub read_from : Layout → Memory → ℕ → Value → Option ℕ → Result (List Cell) Kind
read_from l m bytes at None = Err MemAccess
read_from l m bytes at (Some base) = Ok (cells_at m base (8 * offset_in l base at) (8 * bytes))

abbrev pub read : Layout → Memory → ℕ → Value → Result (List Cell) Kind
read l m bytes at = read_from l m bytes at (reached l m bytes at)

abbrev pub overwritten_at : Layout → Memory → List Cell → Value → ℕ → Memory
overwritten_at l m cells at base = with_base m base (Some (overwritten (unwrap_or (m base) []) (8 * offset_in l base at) cells))

-- an object that can't be written is written by its own initialiser all the same (C11 6.7.9)
abbrev pub may_write : Layout → Bool → ℕ → Bool
may_write l named base = named || not (l.readonly base)

abbrev pub written_to : Layout → Memory → Bool → List Cell → Value → Option ℕ → Result Memory Kind
written_to l m named cells at None = Err MemAccess
written_to l m named cells at (Some base) = cond (may_write l named base) (Ok (overwritten_at l m cells at base)) (Err MemAccess)

-- the memory after cells of so many bytes were written from the address on, or why they can't be
abbrev pub written : Layout → Memory → Bool → ℕ → List Cell → Value → Result Memory Kind
written l m named bytes cells at = written_to l m named cells at (reached l m bytes at)

-- a scalar is stored by an initialiser
abbrev pub put : Layout → Memory → Scalar → Value → Value → Result Memory Kind
put l m type at v = written l m true (size_of_scalar type l.machine) (cells_of l.machine (bits_of_scalar type l.machine) v) at

-- two ranges of so many bytes share some and aren't the same
abbrev pub clash : ℕ → ℕ → ℕ → Bool
clash bytes first second = not (first == second) && (not (nat_le (first + bytes) second) && not (nat_le (second + bytes) first))

abbrev pub overlaps : Layout → ℕ → Value → Value → Option ℕ → Option ℕ → Bool
overlaps l bytes to source None other = false
overlaps l bytes to source (Some base) None = false
overlaps l bytes to source (Some base) (Some other) = (base == other) && clash bytes (offset_in l base to) (offset_in l other source)

abbrev pub copied_by : Layout → Memory → Bool → ℕ → Value → Value → Bool → Result (List Cell) Kind → Result Memory Kind
copied_by l m named bytes to source clashes (Err kind) = Err kind
copied_by l m named bytes to source true (Ok cells) = by_target (written l m named bytes cells to)
  where
    by_target : Result Memory Kind → Result Memory Kind
    by_target (Err kind) = Err kind
    by_target (Ok after) = Err Overlap
copied_by l m named bytes to source false (Ok cells) = written l m named bytes cells to

-- so many bytes are copied from one address to another; ranges that overlap are the same (C11 6.5.16.1p3)
abbrev pub copied : Layout → Memory → Bool → ℕ → Value → Value → Result Memory Kind
copied l m named bytes to source =
    copied_by l m named bytes to source (overlaps l bytes to source (reached l m bytes to) (reached l m bytes source)) (read l m bytes source)
