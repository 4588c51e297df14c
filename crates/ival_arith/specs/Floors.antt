-- The numbers of sets, each divided by a positive number and rounded down.
use Rattle.std.specs.Prelude.{ℕ, ◌/◌, ◌%◌, ◌==◌, cond, map}
use Rattle.c_base.specs.Operators.{floor}
use Rattle.ival_core.specs.declared.value.Progression.{Progression}
use Rattle.ival_core.specs.declared.value.Shape.{Shape}
use Rattle.ival_core.specs.declared.value.Shape.TheVariants.{Few, Many}
use Rattle.ival_arith.specs.Pieces.{gathered, run}

-- the numbers of a run, each divided by d, rounded down
abbrev pub run_floored : ℕ → Progression → Shape
run_floored d p = run (floor p.low d) (floor p.high d) (cond (p.stride % d == 0) (p.stride / d) 1)

unfoldable pub floored : ℕ → Shape → Shape
floored d (Few v) = gathered (map (λ n. floor n d) v.items)
floored d (Many p) = run_floored d p
