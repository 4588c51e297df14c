-- Loads and weak stores at all numbers of a set.
use Rattle.std.specs.Prelude.{ℕ, zero, suc, ◌+◌, ◌-◌, ◌*◌, ◌/◌, ◌≤◌, nat_lt, cond, List, map, ℤ, pos, ◌≤ℤ◌, unsigned_abs, Option, None, Some}
use Rattle.cell_laws.specs.Elements.{Element}
use Rattle.cell_laws.specs.Cells.{Ops}
use Rattle.cell_laws.specs.Access.{put, loaded, loaded_all, weakened}
use Rattle.cell_runs.specs.declared.runs.Run.{Run}
use Rattle.run_slots.specs.Offsets.{steps_from}
use Rattle.run_slots.specs.Repeats.{told_once}
use Rattle.run_slots.specs.Slots.{slots_weakened}
use Rattle.ival_core.specs.declared.value.Progression.{Progression}
use Rattle.ival_core.specs.declared.value.Shape.{Shape}
use Rattle.ival_core.specs.declared.value.Shape.TheVariants.{Few, Many}
use Rattle.ival_core.specs.Sets.{Has, apart}
use Rattle.ival_core.specs.Views.{single_of}

-- the bit that stands so many units of some bits behind the first
abbrev pub bit_at : ℕ → ℤ → ℕ
bit_at unit z = unit * unsigned_abs z

-- an access of k bits there lies within n bits
pub record Fits (unit k n : ℕ) (z : ℤ) : Type 0 where
  pub low : pos 0 ≤ℤ z
  pub high : bit_at unit z + k ≤ n

-- so does one at each number of the set
abbrev pub AllFit : ℕ → ℕ → ℕ → Shape → Type 0
AllFit unit k n s = (z : ℤ) → Has s z → Fits unit k n z

-- how many numbers follow the first
abbrev pub more_in : Progression → ℕ
more_in p = apart p.low p.high / p.stride

module _ {C H : Type 0} (o : Ops C H) (m : List (Element C)) (unit : ℕ) where
  -- The cell of k bits at one of the numbers. In a long set a part of the map that comes again is told once; rs are the map's ranges.
  unfoldable pub loaded_among : List (Run C) → ℕ → Shape → C
  loaded_among rs k (Few v) = loaded_all o m (map (bit_at unit) v.items) k
  loaded_among rs k (Many p) = loaded_all o m (told_once rs k (bit_at unit p.low) (unit * p.stride) (suc (more_in p))) k

  -- where there is one number alone, its cell
  unfoldable pub loaded_or : C → ℕ → Option ℤ → C
  loaded_or c k None = c
  loaded_or c k (Some z) = loaded o m (bit_at unit z) k

  unfoldable pub loaded_at : List (Run C) → ℕ → Shape → C
  loaded_at rs k s = loaded_or (loaded_among rs k s) k (single_of s)

-- how many turns it takes until slots of k bits, one of them `step` bits behind the other, have each been in one turn and no two in a turn overlap
unfoldable pub turns : ℕ → ℕ → ℕ
turns k step = suc ((k - 1) / step)

module _ {C H : Type 0} (o : Ops C H) (m : List (Element C)) (k first step more : ℕ) (es : List (Element C)) where
  -- after n turns: each slot of these, of k bits, may have these elements
  unfoldable pub after_turns : ℕ → List (Element C)
  after_turns zero = m
  after_turns (suc n) = slots_weakened o (after_turns n) (first + n * step) k (turns k step * step - k) ((more - n) / turns k step) es

module _ {C H : Type 0} (o : Ops C H) (m : List (Element C)) (unit : ℕ) where
  -- more than 200 numbers go turn by turn
  unfoldable pub weakened_by : ℕ → Progression → C → List (Element C)
  weakened_by k p c =
      cond (nat_lt (more_in p) 200) (weakened o m (steps_from (bit_at unit p.low) (unit * p.stride) (suc (more_in p))) k c)
      (after_turns o m k (bit_at unit p.low) (unit * p.stride) (more_in p) (put o k c) (turns k (unit * p.stride)))

  -- the old and the new content are possible at each of the numbers
  unfoldable pub weakened_at : ℕ → Shape → C → List (Element C)
  weakened_at k (Few v) c = weakened o m (map (bit_at unit) v.items) k c
  weakened_at k (Many p) c = weakened_by k p c
