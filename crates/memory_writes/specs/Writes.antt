-- What a write at places leaves. Offsets count bytes.
use Rattle.std.specs.Prelude.{◌≡◌, ℕ, List, [], ◌∷◌, ℤ, pos, Option, None, Some}
use Rattle.cell_laws.specs.Elements.{Element, width}
use Rattle.cell_laws.specs.Cells.{Ops}
use Rattle.cell_laws.specs.Access.{repeated, stored}
use Rattle.ival_core.specs.Views.{single_of}
use Rattle.map_accesses.specs.Accesses.{bit_at, Fits, weakened_at}
use Rattle.avalue.specs.declared.row.Target.{Target}
use Rattle.avalue.specs.declared.row.Target.TheVariants.{Base, Slot}
use Rattle.memory_maps.specs.Memories.{MapsOf, map_at, with_map}
use Rattle.memory_reads.specs.Reads.{Place, AllFitIn}

-- the offset of the place, where it has just one
abbrev pub with_target : Target → Option ℤ → Option (Target × ℤ)
with_target t None = None
with_target t (Some z) = Some (t, z)

-- the one place with one offset that is given, if so
abbrev pub one_place : List Place → Option (Target × ℤ)
one_place [] = None
one_place (p ∷ []) = with_target p.0 (single_of p.1.shape)
one_place (p ∷ q ∷ ps) = None

module _ {C : Type 0} where
  -- the bits at the offset are there, or there is no map and the offset is 0
  abbrev pub FitsOne : ℕ → ℤ → Option (List (Element C)) → Type 0
  FitsOne k z None = z ≡ pos 0
  FitsOne k z (Some x) = Fits 8 k (width x) z

  -- a slot that isn't held may be written at 0
  abbrev pub IsNew : MapsOf C → Option (Target × ℤ) → Type 0
  IsNew m None = ⊥
  IsNew m (Some (Base b, z)) = ⊥
  IsNew m (Some (Slot s, z)) = (map_at m (Slot s) ≡ None) × (z ≡ pos 0)

  -- all places fit, or one slot is made
  pub data FitTo (m : MapsOf C) (k : ℕ) (ps : List Place) : Type 0 where
    Inside : AllFitIn m k ps → FitTo m k ps
    Makes : IsNew m (one_place ps) → FitTo m k ps

module _ {C H : Type 0} (o : Ops C H) (k : ℕ) (c : C) where
  abbrev pub weak_in : Place → MapsOf C → Option (List (Element C)) → MapsOf C
  weak_in p m None = m
  weak_in p m (Some x) = with_map m p.0 (weakened_at o x 8 k p.1.shape c)

  -- the old and the new content are possible at each offset of the place
  abbrev pub weak_place : Place → MapsOf C → MapsOf C
  weak_place p m = weak_in p m (map_at m p.0)

  unfoldable pub weak_all : List Place → MapsOf C → MapsOf C
  weak_all [] m = m
  weak_all (p ∷ ps) m = weak_all ps (weak_place p m)

  -- the map with the cell at the offset; a new one has this content alone
  abbrev pub strong_map : ℤ → Option (List (Element C)) → List (Element C)
  strong_map z None = repeated o k 1 c
  strong_map z (Some x) = stored o x (bit_at 8 z) k c

  abbrev pub strong : Target → ℤ → MapsOf C → MapsOf C
  strong t z m = with_map m t (strong_map z (map_at m t))

  abbrev pub by_one : List Place → MapsOf C → Option (Target × ℤ) → MapsOf C
  by_one ps m None = weak_all ps m
  by_one ps m (Some p) = strong p.0 p.1 m

  -- strong exactly where one object or slot and one offset is given
  abbrev pub written : List Place → MapsOf C → MapsOf C
  written ps m = by_one ps m (one_place ps)
