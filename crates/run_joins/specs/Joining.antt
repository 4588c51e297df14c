-- Cursors in two lists of runs, and steps of their join.
use Rattle.std.specs.Prelude.{◌≡◌, ℕ, ◌+◌, ◌<◌, ◌≤◌, length, ◌^◌, List, [], ◌∷◌, ◌++◌, drop}
use Rattle.cell_runs.specs.declared.runs.Run.{Run}
use Rattle.cell_runs.specs.Runs.{elements, AllSome, Extends}
use Rattle.run_joins.specs.declared.cursor.Cursor.{Cursor}
use Rattle.cell_laws.specs.Elements.{Element, width, AllFine}
use Rattle.cell_laws.specs.Cells.{Ops}
use Rattle.cell_laws.specs.Join.{joined_from}

module _ {C : Type 0} where
  -- the elements from a cursor on
  unfoldable pub rest : List (Run C) → Cursor → List (Element C)
  rest rs at = drop at.used (elements (drop at.index rs))

  abbrev pub IsIn : List (Run C) → ℕ → Type 0
  IsIn [] used = used ≡ 0
  IsIn (r ∷ rs) used = used < r.count

  abbrev pub IsCursor : List (Run C) → Cursor → Type 0
  IsCursor rs at = IsIn (drop at.index rs) at.used

  -- the first run has so many elements
  abbrev pub HasLeft : List (Run C) → ℕ → Type 0
  HasLeft [] n = ⊥
  HasLeft (r ∷ rs) n = n ≤ r.count

  -- the first runs have elements of the same size
  abbrev pub SameBits : List (Run C) → List (Run C) → Type 0
  SameBits [] ss = ⊥
  SameBits (r ∷ rs) [] = ⊥
  SameBits (r ∷ rs) (s ∷ ss) = r.bits ≡ s.bits

-- the runs of two maps that are as wide
pub record AreMaps {C : Type 0} (Fine : ℕ → C → Type 0) (a b : List (Run C)) : Type 0 where
  pub some_first : AllSome a
  pub some_second : AllSome b
  pub fine_first : AllFine Fine (elements a)
  pub fine_second : AllFine Fine (elements b)

-- two cursors in maps that are as wide from there
pub record AreEven {C : Type 0} (a : List (Run C)) (i : Cursor) (b : List (Run C)) (j : Cursor) : Type 0 where
  pub left : IsCursor a i
  pub right : IsCursor b j
  pub even : width (rest a i) ≡ width (rest b j)
  pub small : width (rest a i) < 2 ^ 64

-- a step of the join: what was joined, and what is left
pub record Steps {C H : Type 0} (o : Ops C H) (merge : ℕ → C → C → C) (a : List (Run C)) (i k : Cursor) (b : List (Run C)) (j l : Cursor) (old new : List (Run C)) : Type 0 where
  pub more : List (Element C)
  pub extends : Extends old new more
  pub same : more ++ joined_from o merge [] [] (rest a k) (rest b l) ≡ joined_from o merge [] [] (rest a i) (rest b j)
  pub still : AreEven a k b l
  pub less : length (rest a k) < length (rest a i)

-- the first element was moved from one list to the end of another
pub record Moves {C : Type 0} (rs : List (Run C)) (i k : Cursor) (old new : List (Run C)) (n : ℕ) : Type 0 where
  pub moved : Element C
  pub from : rest rs i ≡ moved ∷ rest rs k
  pub into : Extends old new (moved ∷ [])
  pub bits : n ≡ moved.bits
  pub some : 0 < moved.bits
  pub still : IsCursor rs k

-- two stretches that have been read since the last common cut; i0 and j0 are where it was
pub record Open {C H : Type 0} (o : Ops C H) (merge : ℕ → C → C → C) (a : List (Run C)) (i0 i : Cursor) (b : List (Run C)) (j0 j : Cursor) (p q : List (Run C)) (wp wq : ℕ) : Type 0 where
  pub same : joined_from o merge (elements p) (elements q) (rest a i) (rest b j) ≡ joined_from o merge [] [] (rest a i0) (rest b j0)
  pub left : IsCursor a i
  pub right : IsCursor b j
  pub wide_left : wp ≡ width (elements p)
  pub wide_right : wq ≡ width (elements q)
  pub none_left : wp ≡ 0 → elements p ≡ []
  pub even : wp + width (rest a i) ≡ wq + width (rest b j)
  pub begun : wp + width (rest a i) ≡ width (rest a i0)
  pub small : width (rest a i0) < 2 ^ 64
  pub some : 0 < width (rest a i0)
  pub less : 0 < wp → length (rest a i) < length (rest a i0)
  pub first : wp ≡ 0 → i ≡ i0
