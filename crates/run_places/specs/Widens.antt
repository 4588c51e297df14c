-- The widening of cells.
use Rattle.std.specs.Prelude.{◌≡◌, ℕ, true}
use Rattle.cell_laws.specs.Cells.{Ops}

-- it includes both cells
pub record WidenLaws {C H : Type 0} (o : Ops C H) (Fine : ℕ → C → Type 0) (widened : ℕ → C → C → C) : Type 0 where
  pub widened_fine : (k : ℕ) (x y : C) → Fine k x → Fine k y → Fine k (widened k x y)
  pub widened_first : (k : ℕ) (x y : C) → Fine k x → Fine k y → o.leq x (widened k x y) ≡ true
  pub widened_second : (k : ℕ) (x y : C) → Fine k x → Fine k y → o.leq y (widened k x y) ≡ true
