-- Parts of runs that come again and again, and the offsets that are left where these are told once, as plain functions.
use Rattle.std.specs.Prelude.{ℕ, zero, suc, ◌+◌, ◌-◌, ◌*◌, ◌/◌, ◌%◌, ◌==◌, nat_lt, min, max, cond, List, [], ◌∷◌, ◌++◌}
use Rattle.cell_runs.specs.declared.runs.Run.{Run}
use Rattle.run_slots.specs.declared.stretch.Stretch.{Stretch}
use Rattle.run_slots.specs.Offsets.{steps_from}

-- how many parts, each `wide` bits behind the one before, stand in elements of so many bits until one begins as the first did
unfoldable pub turn : ℕ → ℕ → ℕ
turn bits wide = cond (wide % bits == 0) 1 bits

abbrev pub one_part : Stretch
one_part = record { size = 1; repeats = 1 }

abbrev pub or_one : Stretch → Stretch
or_one s = cond (s.repeats == 0) one_part s

-- parts of `reach` bits in the last `rest` bits of a run with elements of so many bits, each `wide` bits behind the one before, at most `left`
unfoldable pub stretch_in : ℕ → ℕ → ℕ → ℕ → ℕ → Stretch
stretch_in bits rest wide reach left =
    cond (nat_lt rest (reach - wide)) one_part
    (cond (nat_lt (rest / 64) wide) one_part
    (or_one (record { size = turn bits wide; repeats = min (left / turn bits wide) ((rest - (reach - wide)) / (turn bits wide * wide)) })))

module _ {C : Type 0} where
  -- the same from a bit of the runs on
  unfoldable pub stretch_from : List (Run C) → ℕ → ℕ → ℕ → ℕ → Stretch
  stretch_from [] at wide reach left = one_part
  stretch_from (r ∷ rs) at wide reach left =
      cond (nat_lt at (r.bits * r.count)) (stretch_in r.bits (r.bits * r.count - at) wide reach left) (stretch_from rs (at - r.bits * r.count) wide reach left)

  -- of the `left` numbers from `at` on those at which no part comes again; there are as many as fuel or fewer
  unfoldable pub offsets_from : List (Run C) → ℕ → ℕ → ℕ → ℕ → ℕ → List ℕ
  offsets_from rs step reach zero at left = []
  offsets_from rs step reach (suc fuel) at left =
      cond (left == 0) []
      (let s = stretch_from rs at step reach left in
      steps_from at step s.size ++ offsets_from rs step reach fuel (at + s.size * s.repeats * step) (left - s.size * s.repeats))

  -- of `count` numbers from `first` on those at which no part of k bits comes again
  unfoldable pub told_once : List (Run C) → ℕ → ℕ → ℕ → ℕ → List ℕ
  told_once rs k first step count = offsets_from rs step (max k step) count first count
