-- What a read at places gives. Offsets count bytes.
use Rattle.std.specs.Prelude.{◌≡◌, ◌⊎◌, ℕ, List, [], ◌∷◌, Option, None, Some}
use Rattle.cell_laws.specs.Elements.{Element, width}
use Rattle.cell_laws.specs.Cells.{Ops}
use Rattle.cell_runs.specs.declared.runs.Run.{Run}
use Rattle.ival_core.specs.declared.value.Ival.{Ival}
use Rattle.offmap.specs.Maps.{AreRanges}
use Rattle.map_accesses.specs.Accesses.{AllFit, loaded_at}
use Rattle.avalue.specs.declared.row.Target.{Target}
use Rattle.avalue.specs.declared.row.Target.TheVariants.{Base, Slot}
use Rattle.memory_maps.specs.Memories.{MapsOf, map_at}

abbrev pub Place : Type 0
Place = Target × Ival

module _ {C : Type 0} where
  -- the map is there, and accesses of k bits at each of the offsets lie within it
  abbrev pub FitsIn : ℕ → Ival → Option (List (Element C)) → Type 0
  FitsIn k at None = ⊥
  FitsIn k at (Some x) = AllFit 8 k (width x) at.shape

  abbrev pub AllFitIn : MapsOf C → ℕ → List Place → Type 0
  AllFitIn m k [] = Unit {0}
  AllFitIn m k (p ∷ ps) = FitsIn k p.1 (map_at m p.0) × AllFitIn m k ps

  -- these are the ranges of each map
  abbrev pub HaveRanges : MapsOf C → (Target → List (Run C)) → Type 0
  HaveRanges m ranges = (t : Target) (x : List (Element C)) → map_at m t ≡ Some x → AreRanges x (ranges t)

module _ {C H : Type 0} (o : Ops C H) where
  abbrev pub loaded_in : List (Run C) → ℕ → Ival → Option (List (Element C)) → C
  loaded_in rs k at None = o.void
  loaded_in rs k at (Some x) = loaded_at o x 8 rs k at.shape

  abbrev pub read_place : MapsOf C → (Target → List (Run C)) → ℕ → Place → C
  read_place m ranges k p = loaded_in (ranges p.0) k p.1 (map_at m p.0)

  -- what may stand at one of the places
  unfoldable pub read : MapsOf C → (Target → List (Run C)) → ℕ → List Place → C
  read m ranges k [] = o.void
  read m ranges k (p ∷ []) = read_place m ranges k p
  read m ranges k (p ∷ q ∷ ps) = o.join (read_place m ranges k p) (read m ranges k (q ∷ ps))

-- the concrete bits of an object or a held slot, if it is there
abbrev pub bits_at : {K : Type 0} → (ℕ → Option (List K)) → (ℕ → Option (List K)) → Target → Option (List K)
bits_at objects held (Base b) = objects b.0
bits_at objects held (Slot s) = held s

abbrev pub IsPlace : List Place → Place → Type 0
IsPlace [] p = ⊥
IsPlace (q ∷ ps) p = (p ≡ q) ⊎ IsPlace ps p
