-- What the answers of accesses stand for.
use Rattle.std.specs.Prelude.{ℕ, Bool, List, map, cond, Option, None, Some, Result, Ok, Err}
use Rattle.c_base.specs.declared.kind.Kind.{Kind}
use Rattle.c_base.specs.declared.kind.Kind.TheVariants.{MemAccess}
use Rattle.c_memory.specs.Layouts.{Layout}
use Rattle.c_memory.specs.Memories.{Memory}
use Rattle.c_memory.specs.Values.{Cell}
use Rattle.c_effects.specs.Ranges.{may_write}
use Rattle.stepper_values.specs.declared.value.Cell.{Cell as CodeCell}
use Rattle.stepper_values.specs.Views.{cell_of}

abbrev pub cells_result_of : Result (List CodeCell) Kind → Result (List Cell) Kind
cells_result_of (Ok cells) = Ok (map cell_of cells)
cells_result_of (Err kind) = Err kind

-- a store has made this memory, or stops with a kind
abbrev pub stored_of : Memory → Option Kind → Result Memory Kind
stored_of m None = Ok m
stored_of m (Some kind) = Err kind

-- the base that is written, or why nothing is
abbrev pub target_of : Layout → Bool → Option ℕ → Result ℕ Kind
target_of l named None = Err MemAccess
target_of l named (Some base) = cond (may_write l named base) (Ok base) (Err MemAccess)
