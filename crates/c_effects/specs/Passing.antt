-- What a call stores in the formals of the function (C11 6.5.2.2p4).
use Rattle.std.specs.Prelude.{ℕ, ◌*◌, List, [], ◌∷◌, Option, None, Some}
use Rattle.c_memory.specs.declared.scalar.Scalar.{Scalar}
use Rattle.c_memory.specs.Values.{Cell, Value, cells_of}
use Rattle.c_memory.specs.Layouts.{Layout}
use Rattle.c_memory.specs.Memories.{Memory, with_base}

-- an argument: a scalar, or the cells of a struct or union
pub data Argument : Type 0 where
  Whole : Value → Argument
  Parts : List Cell → Argument

-- an object that holds the argument alone: it has as many bits as the object
abbrev pub argument_cells : Layout → ℕ → Argument → List Cell
argument_cells l base (Whole v) = cells_of l.machine (8 * l.size base) v
argument_cells l base (Parts cells) = cells

abbrev pub passed : Layout → List ℕ → List Argument → Memory → Memory
passed l [] arguments m = m
passed l (base ∷ bases) [] m = m
passed l (base ∷ bases) (a ∷ arguments) m = passed l bases arguments (with_base m base (Some (argument_cells l base a)))
