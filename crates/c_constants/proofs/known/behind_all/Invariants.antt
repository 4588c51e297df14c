use Rattle.std.proofs.Common.{◌≡◌, drop, map}
use Rattle.c_types.specs.Steps.{stepped}
use Rattle.c_types.specs.Types.{CType}
use Rattle.c_typed_expr.specs.Trees.{Lvalue}
use Rattle.c_typed_expr.specs.Views.{step_of, value_at}
use Rattle.c_checking.specs.Constants.{known}
use Rattle.c_constants.specs.Views.{known_of}
use Rattle.c_constants.proofs.known.behind_all.Given as goal

-- what is left, done to a place of which so much is known, is the whole done to the first
abbrev pub invariant-loop-step : goal.invariant-loop-step
invariant-loop-step l =
    (p : Lvalue) (t : CType) → known l.machine (value_at t p) ≡ known_of l.fn.first → (q : Lvalue) × (known l.machine (value_at t q) ≡ known_of l.so_far)
    × (stepped (map step_of (drop l.step-index l.steps)) q ≡ stepped (map step_of l.steps) p)
