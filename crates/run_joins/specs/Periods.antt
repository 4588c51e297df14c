-- Elements of two sizes, up to a common cut.
use Rattle.std.specs.Prelude.{◌≡◌, ℕ, ◌-◌, ◌*◌, ◌<◌, ◌≤◌, List, [], ◌∷◌}
use Rattle.cell_runs.specs.declared.runs.Run.{Run}
use Rattle.run_joins.specs.declared.periods.Periods.{Periods}

-- where `left` elements of x bits and `right` elements of y bits stand from a common cut on
pub record ArePeriods (x left y right : ℕ) (p : Periods) : Type 0 where
  pub even : p.first * x ≡ p.second * y
  pub some_first : 0 < p.first
  pub some_second : 0 < p.second
  pub fits_first : p.first * p.repeats ≤ left
  pub fits_second : p.second * p.repeats ≤ right

-- the first runs have them, behind so many elements
abbrev pub HavePeriods : {C : Type 0} → List (Run C) → ℕ → List (Run C) → ℕ → Periods → Type 0
HavePeriods [] i ss j p = ⊥
HavePeriods (r ∷ rs) i [] j p = ⊥
HavePeriods (r ∷ rs) i (s ∷ ss) j p = ArePeriods r.bits (r.count - i) s.bits (s.count - j) p
