use Rattle.std.proofs.Common.{◌≡◌, drop, map}
use Rattle.c_types.specs.Steps.{stepped}
use Rattle.c_typed_expr.specs.Trees.{Expr}
use Rattle.c_typed_expr.specs.Views.{expr_of, logic_run, operand_of}
use Rattle.c_checking.specs.Constants.{known}
use Rattle.c_constants.specs.Views.{known_of}
use Rattle.c_constants.proofs.known.+knowing.Given as goal

-- what is left, done to an expression of which so much is known, is the whole done to the first
abbrev pub invariant-run-loop-each : goal.invariant-run-loop-each
invariant-run-loop-each l =
    (x : Expr) → known l.machine x ≡ known_of l.fn.first → (y : Expr) × (known l.machine y ≡ known_of l.so_far)
    × (stepped (map operand_of (drop l.each-index l.more)) y ≡ stepped (map operand_of l.more) x)

abbrev pub invariant-logic-loop-each : goal.invariant-logic-loop-each
invariant-logic-loop-each l =
    (x : Expr) → known l.machine x ≡ known_of l.fn.first → (y : Expr) × (known l.machine y ≡ known_of l.so_far)
    × (logic_run l.is_and y (map expr_of (drop l.each-index l.more)) ≡ logic_run l.is_and x (map expr_of l.more))
