-- What is left of memories when objects have died or slots were let go.
use Rattle.std.specs.Prelude.{◌≡◌, ℕ, nat_eq, if◌then◌else◌, List, [], ◌∷◌, map, Option, None, Some}
use Rattle.c_base.specs.declared.number.BaseId.{BaseId}
use Rattle.cell_laws.specs.Elements.{Element, width}
use Rattle.cell_laws.specs.Cells.{Ops}
use Rattle.ptree.specs.Entries.{IsAscending, get}
use Rattle.memory_maps.specs.Memories.{MapsOf, left_by}

-- each number stands once, as in every memory
pub record IsInOrder {C : Type 0} (m : MapsOf C) : Type 0 where
  pub bases : IsAscending m.0
  pub slots : IsAscending m.1

module _ {C H : Type 0} (o : Ops C H) where
  -- objects die, one after another
  abbrev pub left_scope : (BaseId → C → C) → List BaseId → MapsOf C → MapsOf C
  left_scope left [] m = m
  left_scope left (b ∷ bs) m = left_scope left bs (left_by o (left b) b m)

abbrev pub width_of : {C : Type 0} → Option (List (Element C)) → Option ℕ
width_of None = None
width_of (Some x) = Some (width x)

-- which objects live and which slots are held, each with its number of bits
pub record HasShape {C : Type 0} (m : MapsOf C) (objects held : ℕ → Option ℕ) : Type 0 where
  pub bases : (b : ℕ) → width_of (get m.0 b) ≡ objects b
  pub slots : (s : ℕ) → width_of (get m.1 s) ≡ held s

module _ {A : Type 0} where
  abbrev pub without_base : BaseId → (ℕ → Option A) → ℕ → Option A
  without_base b objects k = if nat_eq b.0 k then None else objects k

  abbrev pub without_bases : List BaseId → (ℕ → Option A) → ℕ → Option A
  without_bases [] objects = objects
  without_bases (b ∷ bs) objects = without_bases bs (without_base b objects)

  abbrev pub without_slot : ℕ → (ℕ → Option A) → ℕ → Option A
  without_slot s held k = if nat_eq s k then None else held k

-- `wither b` is what becomes of a concrete bit when b dies
module _ {K : Type 0} (wither : BaseId → K → K) where
  abbrev pub withered : BaseId → Option (List K) → Option (List K)
  withered b None = None
  withered b (Some ks) = Some (map (wither b) ks)

  -- all slots are held on, with what becomes of their bits
  abbrev pub outlived : List BaseId → (ℕ → Option (List K)) → ℕ → Option (List K)
  outlived [] held = held
  outlived (b ∷ bs) held = outlived bs (λ k. withered b (held k))

  -- the objects die one after another, and the others live on
  abbrev pub died : List BaseId → (ℕ → Option (List K)) → ℕ → Option (List K)
  died [] objects = objects
  died (b ∷ bs) objects = died bs (without_base b (λ k. withered b (objects k)))
