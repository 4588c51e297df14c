-- Slots of maps, which may each have a cell.
use Rattle.std.specs.Prelude.{ℕ, zero, suc, ◌+◌, ◌*◌, List, [], ◌++◌}
use Rattle.cell_laws.specs.Elements.{Element}
use Rattle.cell_laws.specs.Cells.{Ops}
use Rattle.cell_laws.specs.Join.{joined, joined_cell}
use Rattle.cell_laws.specs.Access.{take_bits, drop_bits, copied}

module _ {C H : Type 0} (o : Ops C H) where
  -- k bits that may have these elements, or what they had
  unfoldable pub weak_slot : List (Element C) → List (Element C) → ℕ → ℕ → List (Element C)
  weak_slot es m at k = joined o (joined_cell o) (copied o m at k) es

  -- so many slots of k bits from a bit on, and behind each some bits that stay
  unfoldable pub weak_slots : ℕ → ℕ → List (Element C) → List (Element C) → ℕ → ℕ → List (Element C)
  weak_slots k gap es m at zero = []
  weak_slots k gap es m at (suc n) = weak_slot es m at k ++ (copied o m (at + k) gap ++ weak_slots k gap es m (at + (k + gap)) n)

  -- n slots of k bits from `at` on, `gap` bits behind each, and one more slot; each may have these elements
  unfoldable pub slots_weakened : List (Element C) → ℕ → ℕ → ℕ → ℕ → List (Element C) → List (Element C)
  slots_weakened m at k gap n es =
      take_bits o m at ++ (weak_slots k gap es m at n ++ (weak_slot es m (at + n * (k + gap)) k ++ drop_bits o m (at + n * (k + gap) + k)))
