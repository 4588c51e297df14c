-- Memories as plain data: the maps of live objects and of held slots by number.
use Rattle.std.specs.Prelude.{ℕ, ◌*◌, ◌<◌, ◌^◌, List, [], ◌∷◌, Option, None, Some}
use Rattle.std.specs.List.{AllByRecursion}
use Rattle.c_base.specs.declared.number.BaseId.{BaseId}
use Rattle.cell_laws.specs.Elements.{Element, width, AllFine}
use Rattle.cell_laws.specs.Cells.{Ops}
use Rattle.cell_laws.specs.Access.{repeated}
use Rattle.run_orders.specs.Deaths.{left_all}
use Rattle.ptree.specs.Entries.{AllKeys, get, set, remove, merged}
use Rattle.avalue.specs.declared.row.Target.{Target}
use Rattle.avalue.specs.declared.row.Target.TheVariants.{Base, Slot}

-- maps by number, in ascending order of the numbers
abbrev pub Maps : Type 0 → Type 0
Maps C = List (ℕ × List (Element C))

-- the maps of the live objects, and those of the held slots
abbrev pub MapsOf : Type 0 → Type 0
MapsOf C = Maps C × Maps C

module _ {C : Type 0} where
  abbrev pub nothing : MapsOf C
  nothing = ([], [])

  abbrev pub map_at : MapsOf C → Target → Option (List (Element C))
  map_at m (Base b) = get m.0 b.0
  map_at m (Slot s) = get m.1 s

  abbrev pub with_map : MapsOf C → Target → List (Element C) → MapsOf C
  with_map m (Base b) x = (set m.0 b.0 x, m.1)
  with_map m (Slot s) x = (m.0, set m.1 s x)

  abbrev pub without : MapsOf C → Target → MapsOf C
  without m (Base b) = (remove m.0 b.0, m.1)
  without m (Slot s) = (m.0, remove m.1 s)

-- what holds of each map of a memory: its cells may stand in their elements, and its bits can be counted
pub record IsObject {C : Type 0} (Fine : ℕ → C → Type 0) (x : List (Element C)) : Type 0 where
  pub fine : AllFine Fine x
  pub small : width x < 2 ^ 64

abbrev pub AreObjects : {C : Type 0} → (ℕ → C → Type 0) → Maps C → Type 0
AreObjects {C = C} Fine maps = AllByRecursion (λ (e : ℕ × List (Element C)). IsObject Fine e.1) maps

-- numbers of objects and slots have 32 bits
abbrev pub HaveNumbers : {C : Type 0} → Maps C → Type 0
HaveNumbers maps = AllKeys (λ k. k < 2 ^ 32) maps

abbrev pub IsMemory : {C : Type 0} → (ℕ → C → Type 0) → MapsOf C → Type 0
IsMemory Fine m = AreObjects Fine m.0 × AreObjects Fine m.1 × HaveNumbers m.0 × HaveNumbers m.1

-- the object has bytes, and its bits can be counted
pub record HasBits (size_of : ℕ → ℕ) (b : BaseId) : Type 0 where
  pub some : 0 < size_of b.0
  pub small : 8 * size_of b.0 < 2 ^ 64

module _ {C H : Type 0} (o : Ops C H) where
  -- objects are born, not written yet (C11 6.2.4p6)
  abbrev pub entered : (ℕ → ℕ) → List BaseId → MapsOf C → MapsOf C
  entered size_of [] m = m
  entered size_of (b ∷ bs) m = entered size_of bs (with_map m (Base b) (repeated o 1 (8 * size_of b.0) o.uninit))

  abbrev pub left_map : (C → C) → Option (List (Element C)) → Option (List (Element C))
  left_map left None = None
  left_map left (Some x) = Some (left_all o left x)

  -- what is left of all maps
  abbrev pub left_maps : (C → C) → Maps C → Maps C
  left_maps left maps = merged (λ k a b. left_map left a) maps []

  -- an object dies, and each cell becomes what is left of it (C11 6.2.4p2)
  abbrev pub left_by : (C → C) → BaseId → MapsOf C → MapsOf C
  left_by left b m = (left_maps left (remove m.0 b.0), left_maps left m.1)
