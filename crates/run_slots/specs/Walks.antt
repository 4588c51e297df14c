-- Bits of lists of runs by their number.
use Rattle.std.specs.Prelude.{◌≡◌, ℕ, ◌+◌, ◌≤◌, List, length, take}
use Rattle.cell_laws.specs.Elements.{width}
use Rattle.cell_runs.specs.declared.runs.Run.{Run}
use Rattle.cell_runs.specs.Runs.{elements}
use Rattle.run_places.specs.declared.spots.Spot.{Spot}
use Rattle.run_places.specs.Spots.{IsSpot}

module _ {C : Type 0} where
  -- how many bits stand before a spot
  unfoldable pub bits_before : List (Run C) → Spot → ℕ
  bits_before rs s = width (elements (take s.index rs)) + s.skip

-- it is the bit with this number, or the end
pub record IsAt {C : Type 0} (rs : List (Run C)) (at : ℕ) (s : Spot) : Type 0 where
  pub before : bits_before rs s ≡ at
  pub index : s.index ≤ length rs
  pub spot : IsSpot rs s
