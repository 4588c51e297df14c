-- Parts of lists of runs.
use Rattle.std.specs.Prelude.{◌≡◌, ℕ, ◌-◌, ◌*◌, ◌<◌, ◌==◌, cond, List, [], ◌∷◌, drop}
use Rattle.cell_runs.specs.declared.runs.Run.{Run}
use Rattle.cell_laws.specs.Elements.{Element, width}
use Rattle.cell_laws.specs.Cells.{Ops}
use Rattle.cell_laws.specs.Access.{take_bits, drop_bits}
use Rattle.cell_runs.specs.Runs.{elements, Extends}

module _ {C H : Type 0} (o : Ops C H) where
  -- some bits of an element, or nothing
  unfoldable pub piece_of : Element C → ℕ → ℕ → List (Element C)
  piece_of e low count = cond (count == 0) [] (record { bits = count; cell = o.piece e.bits e.cell low count } ∷ [])

  -- at its bit n the list of runs goes on as the runs from an index on do behind some bits of the first of these
  abbrev pub HasInside : List (Run C) → ℕ → Type 0
  HasInside [] skip = skip ≡ 0
  HasInside (r ∷ rs) skip = skip < r.bits * r.count

pub record Locates {C H : Type 0} (o : Ops C H) (rs : List (Run C)) (n index skip : ℕ) : Type 0 where
  pub rest : drop_bits o (elements rs) n ≡ drop_bits o (elements (drop index rs)) skip
  pub inside : HasInside o (drop index rs) skip

-- the first n bits of the runs were added, as far as they have them
pub record Takes {C H : Type 0} (o : Ops C H) (rs : List (Run C)) (n more : ℕ) (old new : List (Run C)) : Type 0 where
  pub taken : Extends old new (take_bits o (elements rs) n)
  pub left : more ≡ n - width (elements rs)
