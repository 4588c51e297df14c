-- The bits of an object, cut into elements that each have a cell.
use Rattle.std.specs.Prelude.{ℕ, zero, suc, ◌+◌, ◌<◌, Bool, List, [], ◌∷◌, ◌++◌, Option, None, Some}

pub record Element (C : Type 0) : Type 0 where
  pub bits : ℕ
  pub cell : C

-- what stands at one bit: its index in its element, that element's bits and cell
pub record Place (C : Type 0) : Type 0 where
  pub at : ℕ
  pub bits : ℕ
  pub cell : C

module _ {C : Type 0} where
  -- the places of an element of k bits, from an index on
  unfoldable pub spread : ℕ → C → ℕ → ℕ → List (Place C)
  spread k c i zero = []
  spread k c i (suc n) = record { at = i; bits = k; cell = c } ∷ spread k c (suc i) n

  -- one place a bit
  unfoldable pub places : List (Element C) → List (Place C)
  places [] = []
  places (e ∷ es) = spread e.bits e.cell 0 e.bits ++ places es

  unfoldable pub width : List (Element C) → ℕ
  width [] = 0
  width (e ∷ es) = e.bits + width es

unfoldable pub bit_at : List Bool → ℕ → Option Bool
bit_at [] i = None
bit_at (b ∷ bs) zero = Some b
bit_at (b ∷ bs) (suc i) = bit_at bs i

-- Which cells may stand in an element of so many bits is told by a predicate `Fine : ℕ → C → Type 0`, which all maps keep.
pub record IsFit {C : Type 0} (Fine : ℕ → C → Type 0) (p : Place C) : Type 0 where
  pub fine : Fine p.bits p.cell
  pub inside : p.at < p.bits

module _ {C : Type 0} (Fine : ℕ → C → Type 0) where
  abbrev pub AllFine : List (Element C) → Type 0
  AllFine [] = Unit {0}
  AllFine (e ∷ es) = Fine e.bits e.cell × AllFine es

  abbrev pub AllFit : List (Place C) → Type 0
  AllFit [] = Unit {0}
  AllFit (p ∷ ps) = IsFit Fine p × AllFit ps
