-- Maps, and what their operations rest on.
use Rattle.std.specs.Prelude.{◌≡◌, ℕ, zero, suc, ◌+◌, ◌<◌, ◌^◌, List}
use Rattle.cell_laws.specs.Elements.{Element, width, AllFine}
use Rattle.cell_laws.specs.Cells.{Ops}
use Rattle.cell_laws.specs.Access.{loaded_all}
use Rattle.cell_runs.specs.declared.runs.Run.{Run}
use Rattle.cell_runs.specs.Runs.{elements, AllSome, AreApart}
use Rattle.run_slots.specs.Offsets.{Represent}
use Rattle.offmap.specs.declared.access.Piece.{Piece}

-- runs of cells that may stand there, none empty, neighbours different, with so many bits in all
pub record IsMap {C : Type 0} (Fine : ℕ → C → Type 0) (bits : ℕ) (rs : List (Run C)) : Type 0 where
  pub some : AllSome rs
  pub apart : AreApart rs
  pub fine : AllFine Fine (elements rs)
  pub wide : bits ≡ width (elements rs)
  pub small : bits < 2 ^ 64

-- the ranges of a map: there are no others whose neighbours differ
pub record AreRanges {C : Type 0} (m : List (Element C)) (rs : List (Run C)) : Type 0 where
  pub view : elements rs ≡ m
  pub some : AllSome rs
  pub apart : AreApart rs
  pub only : (ss : List (Run C)) → AllSome ss → AreApart ss → elements ss ≡ m → ss ≡ rs

-- a cell of the parts of k bits at `count` numbers from `at` on: the join of those at some of these, at which all of them are found
pub record LoadsSteps {C H : Type 0} (o : Ops C H) (m : List (Element C)) (k at step count : ℕ) (c : C) : Type 0 where
  pub offsets : List ℕ
  pub all : Represent o m k at step count offsets
  pub is : c ≡ loaded_all o m offsets k

abbrev pub piece_of : {C : Type 0} → Piece C → Element C
piece_of p = record { bits = p.bits; cell = p.cell }

-- so many elements, and a piece behind them, as one
unfoldable pub glued_on : {C H : Type 0} → Ops C H → ℕ → Element C → Element C → Element C
glued_on o zero e p = p
glued_on o (suc n) e p = glued_on o n e (record { bits = e.bits + p.bits; cell = o.glue e.bits e.cell p.bits p.cell })
