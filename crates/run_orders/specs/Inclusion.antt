-- Elements that allow what stands at the places of other runs.
use Rattle.std.specs.Prelude.{◌≡◌, ◌+◌, false, List, ◌++◌, length, Option, None, Some}
use Rattle.cell_laws.specs.Elements.{Element, Place, width}
use Rattle.cell_laws.specs.Cells.{Ops}
use Rattle.cell_laws.specs.Order.{is_under}
use Rattle.cell_runs.specs.declared.runs.Run.{Run}
use Rattle.run_places.specs.declared.spots.Spot.{Spot}
use Rattle.run_places.specs.Spots.{ahead, IsSpot}

-- the elements allow what stands at the first of these places, and the others are left
pub record Allows {C H : Type 0} (o : Ops C H) (rs : List (Run C)) (ps : List (Place C)) (es : List (Element C)) (next : Spot) : Type 0 where
  pub law : (fs : List (Element C)) → is_under o ps (es ++ fs) ≡ is_under o (ahead rs next) fs
  pub left : length (ahead rs next) + width es ≡ length ps
  pub spot : IsSpot rs next

-- they do, or they don't
abbrev pub OnAllowed : {C H : Type 0} → Ops C H → List (Run C) → List (Place C) → List (Element C) → Option Spot → Type 0
OnAllowed {C} o rs ps es None = (fs : List (Element C)) → is_under o ps (es ++ fs) ≡ false
OnAllowed o rs ps es (Some next) = Allows o rs ps es next
