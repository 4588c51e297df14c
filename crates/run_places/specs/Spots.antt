-- Single bits of lists of runs.
use Rattle.std.specs.Prelude.{◌≡◌, ℕ, ◌+◌, ◌-◌, ◌*◌, ◌<◌, ◌^◌, Bool, true, false, List, [], ◌∷◌, ◌++◌, take, drop, replicate, min, Option, None, Some}
use Rattle.cell_laws.specs.Elements.{Place, places, width, AllFine}
use Rattle.cell_laws.specs.Join.{whole}
use Rattle.cell_runs.specs.declared.runs.Run.{Run}
use Rattle.cell_runs.specs.Runs.{element_of, elements, AllSome}
use Rattle.run_places.specs.declared.spots.Spot.{Spot}
use Rattle.run_places.specs.declared.spots.Front.{Front}

-- runs as they stand in maps
pub record AreRuns {C : Type 0} (Fine : ℕ → C → Type 0) (rs : List (Run C)) : Type 0 where
  pub some : AllSome rs
  pub fine : AllFine Fine (elements rs)
  pub small : width (elements rs) < 2 ^ 64

module _ {C : Type 0} where
  -- what stands from a spot on
  unfoldable pub ahead : List (Run C) → Spot → List (Place C)
  ahead rs s = drop s.skip (places (elements (drop s.index rs)))

  abbrev pub HasBit : List (Run C) → ℕ → Type 0
  HasBit [] skip = skip ≡ 0
  HasBit (r ∷ rs) skip = skip < r.bits * r.count

  -- it is a bit of the run, or the end
  abbrev pub IsSpot : List (Run C) → Spot → Type 0
  IsSpot rs s = HasBit (drop s.index rs) s.skip

-- true or false with these facts
abbrev pub OnBits : Option (List Bool) → Bool → List Bool → Type 0
OnBits known true bits = known ≡ Some bits
OnBits known false bits = known ≡ None

-- the front bits are some of one run's
pub record IsFront {C : Type 0} (rs : List (Run C)) (s : Spot) (most : ℕ) (f : Front) : Type 0 where
  pub run : Run C
  pub is : drop s.index rs ≡ run ∷ drop (s.index + 1) rs
  pub split : ahead rs s ≡ take f.count (drop s.skip (places (replicate run.count (element_of run)))) ++ ahead rs f.next
  pub count : f.count ≡ min most (run.bits * run.count - s.skip)
  pub skip : s.skip < run.bits * run.count
  pub next : IsSpot rs f.next

-- an element of these bits begins at the spot, or none does
abbrev pub OnWhole : {C : Type 0} → List (Run C) → Spot → ℕ → Bool → Type 0
OnWhole {C} rs s k true = (r : Run C) → drop s.index rs ≡ r ∷ drop (s.index + 1) rs → (r.bits ≡ k) × (whole k (take k (ahead rs s)) ≡ Some r.cell)
OnWhole rs s k false = whole k (take k (ahead rs s)) ≡ None
