-- What is left of maps when an object has died.
use Rattle.std.specs.Prelude.{◌≡◌, ℕ, true, false, List, [], ◌∷◌, ◌++◌}
use Rattle.cell_laws.specs.Elements.{Element}
use Rattle.cell_laws.specs.Cells.{Ops}
use Rattle.cell_laws.specs.Access.{filled}

-- `left c` is what is left of the cell c. Where no value is left, the bits stand by themselves.
unfoldable pub left_all : {C H : Type 0} → Ops C H → (C → C) → List (Element C) → List (Element C)
left_all o left [] = []
left_all o left (e ∷ es) = filled o e.bits (left e.cell) ++ left_all o left es

-- what is left of a cell may stand where it stood
pub record LeftLaws {C H : Type 0} (o : Ops C H) (Fine : ℕ → C → Type 0) (left : C → C) : Type 0 where
  pub left_fine : (k : ℕ) (c : C) → Fine k c → o.blank (left c) ≡ false → Fine k (left c)
  pub left_blank : (k : ℕ) (c : C) → Fine k c → o.blank (left c) ≡ true → Fine 1 (left c)
