-- The widening of cells.
use Rattle.std.specs.Prelude.{ℕ, ◌||◌, List, ℤ}
use Rattle.avalue_base.specs.Values.{Cellv}
use Rattle.avalue_values.specs.Widenings.{widened_values}

-- the values are widened by the marks and the numbers' own, and the flags are those of both
abbrev pub widened_cell : (ℕ → ℕ) → List ℤ → List ℤ → Cellv → Cellv → Cellv
widened_cell size_of marks own c d = record { value = widened_values size_of marks own c.value d.value; uninit = c.uninit || d.uninit; dead = c.dead || d.dead }
