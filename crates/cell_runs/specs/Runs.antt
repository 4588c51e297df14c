-- Lists of elements as runs of equal ones.
use Rattle.std.specs.Prelude.{◌≡◌, ℕ, suc, ◌+◌, ◌<◌, ◌≤◌, ◌^◌, List, [], ◌∷◌, ◌++◌, length, replicate, slice_index_or}
use Rattle.cell_runs.specs.declared.runs.Run.{Run}
use Rattle.cell_laws.specs.Elements.{Element}

module _ {C : Type 0} where
  abbrev pub element_of : Run C → Element C
  element_of r = record { bits = r.bits; cell = r.cell }

  -- the model of a list of runs
  unfoldable pub elements : List (Run C) → List (Element C)
  elements [] = []
  elements (r ∷ rs) = replicate r.count (element_of r) ++ elements rs

  -- runs have elements, and these have bits
  abbrev pub AllSome : List (Run C) → Type 0
  AllSome [] = Unit {0}
  AllSome (r ∷ rs) = (0 < r.bits) × (0 < r.count) × AllSome rs

  -- the two aren't one run, but where that would have too many elements
  abbrev pub IsApart : Run C → Run C → Type 0
  IsApart r s = r.bits ≡ s.bits → r.cell ≡ s.cell → 2 ^ 64 ≤ r.count + s.count

  abbrev pub IsApartFrom : Run C → List (Run C) → Type 0
  IsApartFrom r [] = Unit {0}
  IsApartFrom r (s ∷ ss) = IsApart r s

  -- neighbours are no one run
  abbrev pub AreApart : List (Run C) → Type 0
  AreApart [] = Unit {0}
  AreApart (r ∷ rs) = IsApartFrom r rs × AreApart rs

  -- a run that follows isn't one with the last
  abbrev pub StaysApart : List (Run C) → Run C → Type 0
  StaysApart [] s = Unit {0}
  StaysApart (r ∷ []) s = IsApart r s
  StaysApart (r ∷ q ∷ rs) s = StaysApart (q ∷ rs) s

-- the last run has elements as those of r, and room for their number
pub record Grows {C : Type 0} (rs : List (Run C)) (r : Run C) : Type 0 where
  pub at : ℕ
  pub last : Run C
  pub one_more : length rs ≡ suc at
  pub is : last ≡ slice_index_or rs at last
  pub bits : last.bits ≡ r.bits
  pub cell : last.cell ≡ r.cell
  pub fits : last.count + r.count < 2 ^ 64

-- a list of runs to which elements were added
pub record Extends {C : Type 0} (old new : List (Run C)) (more : List (Element C)) : Type 0 where
  pub elements : elements new ≡ elements old ++ more
  pub some : AllSome old → AllSome new
  pub apart : AreApart old → AreApart new
