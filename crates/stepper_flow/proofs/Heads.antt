-- Parts of loops that there may be.
use Rattle.std.proofs.Common.{◌≡◌, cond, List, ◌∷◌, Option, None, Some, is_some, unwrap_or, refl}
use Rattle.c_typed_expr.specs.Trees.{Expr}
use Rattle.c_program.specs.Syntax.{Numbered}
use Rattle.c_machine.specs.Machine.{Work, Do, Evaluate, begun, tested}
use Rattle.stepper_shapes.specs.Views.{part_of, zero_expr}

pub begun_by : (part : Option Numbered) (rest : List Work) → begun part rest ≡ cond (is_some part) (Do (part_of part) ∷ rest) rest
begun_by None rest = refl
begun_by (Some n) rest = refl

pub tested_by : (condition : Option Expr) (turn : Work) (on rest : List Work) →
    tested condition turn on rest ≡ cond (is_some condition) (Evaluate (unwrap_or condition zero_expr) ∷ turn ∷ rest) on
tested_by None turn on rest = refl
tested_by (Some e) turn on rest = refl
