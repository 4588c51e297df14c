-- Cells that must not be taken apart.
use Rattle.std.specs.Prelude.{ℕ, ◌-◌, ◌==◌, nat_le, Bool, true, false, cond, not, List, [], ◌∷◌}
use Rattle.std.specs.List.{list_all}
use Rattle.cell_laws.specs.Elements.{Element}

module _ {C : Type 0} (rigid : C → Bool) where
  -- the bit n is the first of an element, or its element is not rigid
  unfoldable pub is_loose_at : List (Element C) → ℕ → Bool
  is_loose_at [] n = true
  is_loose_at (e ∷ es) n = cond (n == 0) true (cond (nat_le e.bits n) (is_loose_at es (n - e.bits)) (not (rigid e.cell)))

  -- elements that may be put together: one alone, or none of them rigid
  unfoldable pub is_loose : List (Element C) → Bool
  is_loose [] = true
  is_loose (e ∷ []) = true
  is_loose (e ∷ f ∷ es) = list_all (λ (x : Element C). not (rigid x.cell)) (e ∷ f ∷ es)
