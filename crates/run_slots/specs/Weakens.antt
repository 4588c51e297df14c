-- Slots that become the same again and again.
use Rattle.std.specs.Prelude.{◌≡◌, ℕ, ◌+◌, ◌-◌, ◌*◌, ◌<◌, ◌≤◌, List}
use Rattle.cell_laws.specs.Elements.{Element}
use Rattle.cell_laws.specs.Cells.{Ops}
use Rattle.cell_laws.specs.Access.{copied}
use Rattle.cell_runs.specs.declared.runs.Run.{Run}
use Rattle.cell_runs.specs.Runs.{elements, Extends}
use Rattle.run_places.specs.declared.spots.Spot.{Spot}
use Rattle.run_slots.specs.declared.slots.Slots.{Slots}
use Rattle.run_slots.specs.Slots.{weak_slots}
use Rattle.run_slots.specs.Walks.{IsAt}

-- from a bit on, `size` parts of `reach` bits, each `wide` bits behind the one before, come `repeats` times
pub record ComeAgain {C H : Type 0} (o : Ops C H) (m : List (Element C)) (at wide reach left size repeats : ℕ) : Type 0 where
  pub some : 0 < size
  pub again : 0 < repeats
  pub most : size * repeats ≤ left
  pub same : (j d n : ℕ) → j < repeats → d + n ≤ (size - 1) * wide + reach → copied o m (at + (j * (size * wide) + d)) n ≡ copied o m (at + d) n

-- the slots were added, and the spot stands behind them
pub record Weakens {C H : Type 0} (o : Ops C H) (rs : List (Run C)) (es : List (Element C)) (slots : Slots) (at count : ℕ) (behind : Spot) (old new : List (Run C)) : Type 0 where
  pub extends : Extends old new (weak_slots o slots.bits slots.gap es (elements rs) at count)
  pub spot : IsAt rs (at + count * (slots.bits + slots.gap)) behind
