-- Numbers with one step between them, and which of them tell all parts of a map that stand there.
use Rattle.std.specs.Prelude.{◌≡◌, ◌⊎◌, ℕ, zero, suc, ◌+◌, ◌*◌, ◌<◌, List, [], ◌∷◌}
use Rattle.cell_laws.specs.Elements.{Element, width}
use Rattle.cell_laws.specs.Cells.{Ops}
use Rattle.cell_laws.specs.Access.{copied, AllWithin}

unfoldable pub steps_from : ℕ → ℕ → ℕ → List ℕ
steps_from at step zero = []
steps_from at step (suc n) = at ∷ steps_from (at + step) step n

module _ {C H : Type 0} (o : Ops C H) (m : List (Element C)) (k : ℕ) where
  -- at one of the offsets the map has these k bits
  abbrev pub HasPart : List ℕ → List (Element C) → Type 0
  HasPart [] part = ⊥
  HasPart (b ∷ bs) part = (part ≡ copied o m b k) ⊎ HasPart bs part

  -- each offset is one of `count` numbers from `at` on
  abbrev pub AreSteps : ℕ → ℕ → ℕ → List ℕ → Type 0
  AreSteps at step count [] = Unit {0}
  AreSteps at step count (b ∷ bs) = ((i : ℕ) × (i < count) × (b ≡ at + i * step)) × AreSteps at step count bs

-- offsets of parts of k bits: some of `count` numbers, at which all parts are found that the map has at any of these
pub record Represent {C H : Type 0} (o : Ops C H) (m : List (Element C)) (k at step count : ℕ) (offsets : List ℕ) : Type 0 where
  pub each : (i : ℕ) → i < count → HasPart o m k offsets (copied o m (at + i * step) k)
  pub steps : AreSteps o m k at step count offsets
  pub within : AllWithin k (width m) offsets
