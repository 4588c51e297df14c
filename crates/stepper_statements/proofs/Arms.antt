-- One arm of a ladder.
use Rattle.std.proofs.Common.{◌≡◌, ℕ, ◌+◌, ◌<◌, List, drop, map, length, get_or, Some, slice_get, sym, ◌∙◌, ap}
use Rattle.std.proofs.lemmas.Option.{slice_get-get_or}
use Rattle.c_typed_expr.specs.declared.expr.TExpr.{TExpr}
use Rattle.c_typed_stmt.specs.declared.init.TInit.{TInit}
use Rattle.c_typed_stmt.specs.declared.stmt.TArm.{TArm}
use Rattle.c_typed_term.specs.declared.predicate.TPred.{TPred}
use Rattle.c_program.specs.Syntax.{Stmt, If, Nothing}
use Rattle.c_program.specs.Views.{laddered}
use Rattle.stepper_shapes.proofs.Runs.{dropped_more}
use Rattle.stepper_shapes.specs.Views.{arm_of, begins_with, then_of, then_in}

pub arm_at : (arms : List (TArm TExpr TInit TPred)) (n id : ℕ) (arm : TArm TExpr TInit TPred) (otherwise : Stmt) → n < length arms → arm ≡ get_or arms n arm →
    ((o : Stmt) → arm_of arm o ≡ If id (begins_with (arm_of arm o)) (then_of (arm_of arm Nothing)) o) →
    If id (begins_with (laddered (map arm_of (drop n arms)) otherwise)) (then_in (slice_get arms n)) (laddered (map arm_of (drop (n + 1) arms)) otherwise)
    ≡ laddered (map arm_of (drop n arms)) otherwise
arm_at arms n id arm otherwise h is parts =
    let at : slice_get arms n ≡ Some arm = slice_get-get_or arms n arm h ∙ ap Some (sym is) in
    rw (dropped_more arms n arm at, at) (sym (parts (laddered (map arm_of (drop (n + 1) arms)) otherwise)))
