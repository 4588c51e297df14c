-- Two memories of one shape: what is made of them object by object, and when one includes the other.
use Rattle.std.specs.Prelude.{◌≡◌, ℕ, nat_eq, if◌then◌else◌, Bool, true, false, ◌&&◌, List, [], ◌∷◌, Option, None, Some}
use Rattle.cell_laws.specs.Elements.{Element, width}
use Rattle.cell_laws.specs.Cells.{Ops}
use Rattle.cell_laws.specs.Order.{included as includes_map}
use Rattle.cell_laws.specs.Join.{joined}
use Rattle.ptree.specs.Entries.{IsMap, get, merged}
use Rattle.memory_maps.specs.Memories.{Maps, MapsOf}

module _ {C : Type 0} where
  -- each number stands once, as in every memory
  pub record AreMaps (m : MapsOf C) : Type 0 where
    pub bases : IsMap m.0
    pub slots : IsMap m.1

  -- both are there and as long, or neither is
  abbrev pub AreAlike : Option (List (Element C)) → Option (List (Element C)) → Type 0
  AreAlike None None = Unit {0}
  AreAlike None (Some y) = ⊥
  AreAlike (Some x) None = ⊥
  AreAlike (Some x) (Some y) = width x ≡ width y

  -- the same objects live in both, and the same slots are held, each as long
  pub record HaveOneShape (a b : MapsOf C) : Type 0 where
    pub bases : (k : ℕ) → AreAlike (get a.0 k) (get b.0 k)
    pub slots : (k : ℕ) → AreAlike (get a.1 k) (get b.1 k)

module _ {C H : Type 0} (o : Ops C H) where
  -- `merge k x y` is the cell of elements of k bits that both have at the same bits, in a join or a widening
  abbrev pub merged_map : (ℕ → C → C → C) → Option (List (Element C)) → Option (List (Element C)) → Option (List (Element C))
  merged_map merge None b = None
  merged_map merge (Some x) None = None
  merged_map merge (Some x) (Some y) = if nat_eq (width x) (width y) then Some (joined o merge x y) else None

  -- the join or widening of what both have
  abbrev pub merged_maps : (ℕ → C → C → C) → Maps C → Maps C → Maps C
  merged_maps merge a b = merged (λ k x y. merged_map merge x y) a b

  abbrev pub merged_memory : (ℕ → C → C → C) → MapsOf C → MapsOf C → MapsOf C
  merged_memory merge a b = (merged_maps merge a.0 b.0, merged_maps merge a.1 b.1)

  -- the other map is there, as long, and includes this one
  abbrev pub is_below : List (Element C) → Option (List (Element C)) → Bool
  is_below x None = false
  is_below x (Some y) = nat_eq (width x) (width y) && includes_map o x y

  unfoldable pub are_below : Maps C → Maps C → Bool
  are_below [] others = true
  are_below (e ∷ maps) others = is_below e.1 (get others e.0) && are_below maps others

  abbrev pub included : MapsOf C → MapsOf C → Bool
  included a b = are_below a.0 b.0 && are_below a.1 b.1

  -- the memory has the shape of both and includes both
  pub record IsAbove (a b m : MapsOf C) : Type 0 where
    pub shape : HaveOneShape b m
    pub first : included a m ≡ true
    pub second : included b m ≡ true
