-- Stretches of two lists of runs.
use Rattle.std.specs.Prelude.{◌≡◌, ℕ, ◌+◌, Bool, true, false, List, ◌++◌, length, Option, None, Some}
use Rattle.cell_laws.specs.Elements.{Element, Place, width}
use Rattle.cell_laws.specs.Cells.{Ops}
use Rattle.cell_laws.specs.Join.{with_all, join_stretch}
use Rattle.cell_runs.specs.declared.runs.Run.{Run}
use Rattle.cell_runs.specs.Runs.{elements, AllSome, Extends}

-- the join of two stretches, as runs
pub record IsStretch {C H : Type 0} (o : Ops C H) (merge : ℕ → C → C → C) (a b made : List (Run C)) : Type 0 where
  pub is : elements made ≡ join_stretch o merge (elements a) (elements b)
  pub some : AllSome made

-- elements, and behind them others, if there are any
unfoldable pub prepend : {A : Type 0} → List A → Option (List A) → Option (List A)
prepend xs None = None
prepend xs (Some ys) = Some (xs ++ ys)

-- the elements have taken in what stands at the first of these places, and the others are left
pub record TakesIn {C H : Type 0} (o : Ops C H) (merge : ℕ → C → C → C) (ps qs : List (Place C)) (es : List (Element C)) (old new : List (Run C)) : Type 0 where
  pub made : List (Element C)
  pub extends : Extends old new made
  pub law : (fs : List (Element C)) → with_all o merge ps (es ++ fs) ≡ prepend made (with_all o merge qs fs)
  pub left : length qs + width es ≡ length ps

-- they have, or they can't
abbrev pub OnTaken : {C H : Type 0} → Ops C H → (ℕ → C → C → C) → List (Place C) → List (Place C) → List (Element C) → List (Run C) → List (Run C) → Bool → Type 0
OnTaken o merge ps qs es old new true = TakesIn o merge ps qs es old new
OnTaken {C} o merge ps qs es old new false = (fs : List (Element C)) → with_all o merge ps (es ++ fs) ≡ None

-- what is made of all elements was added
pub record IsDone {C : Type 0} (all : Option (List (Element C))) (old new : List (Run C)) : Type 0 where
  pub made : List (Element C)
  pub is : all ≡ Some made
  pub extends : Extends old new made

-- it was, or there is nothing that could be made of all
abbrev pub OnDone : {C : Type 0} → Option (List (Element C)) → List (Run C) → List (Run C) → Bool → Type 0
OnDone all old new true = IsDone all old new
OnDone all old new false = all ≡ None

-- runs that hold these elements
pub record AreElements {C : Type 0} (runs : List (Run C)) (es : List (Element C)) : Type 0 where
  pub are : elements runs ≡ es
  pub some : AllSome runs
