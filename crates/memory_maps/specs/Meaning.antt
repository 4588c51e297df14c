-- Which memories and held values a memory describes.
use Rattle.std.specs.Prelude.{◌≡◌, ℕ, List, length, Option, None, Some}
use Rattle.cell_laws.specs.Elements.{Element, width}
use Rattle.cell_laws.specs.Meaning.{Describes}
use Rattle.ptree.specs.Entries.{get}
use Rattle.memory_maps.specs.Memories.{MapsOf}

-- `Allows k c ks`: the cell allows these k concrete cells
module _ {C K : Type 0} (Allows : ℕ → C → List K → Type 0) where
  -- both are there, with as many bits, which the map describes; or neither is
  abbrev pub Stands : Option (List (Element C)) → Option (List K) → Type 0
  Stands None None = Unit {0}
  Stands None (Some ks) = ⊥
  Stands (Some m) None = ⊥
  Stands (Some m) (Some ks) = (length ks ≡ width m) × Describes Allows m ks

  -- the objects that live and the slots that are held are those that have maps, and these describe their bits
  pub record DescribesMemory (m : MapsOf C) (objects held : ℕ → Option (List K)) : Type 0 where
    pub bases : (b : ℕ) → Stands (get m.0 b) (objects b)
    pub slots : (s : ℕ) → Stands (get m.1 s) (held s)
