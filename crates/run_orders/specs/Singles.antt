-- Maps that allow one content alone.
use Rattle.std.specs.Prelude.{ℕ, Bool, List}
use Rattle.std.specs.List.{list_all}
use Rattle.cell_laws.specs.Elements.{Element}

-- each element does
unfoldable pub all_single : {C : Type 0} → (ℕ → C → Bool) → List (Element C) → Bool
all_single single es = list_all (λ e. single e.bits e.cell) es
