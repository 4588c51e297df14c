use Rattle.std.proofs.Common.{◌≡◌, drop}
use Rattle.memory_scopes.specs.Scopes.{left_scope}
use Rattle.memory_scopes.proofs.leaving.leave_scope.Given as goal

abbrev pub invariant-loop-base : goal.invariant-loop-base
invariant-loop-base g l =
    left_scope g.C.Cells.ops (g.D.Deaths.left l.deaths) (drop l.base-index l.bases) l.left ≡ left_scope g.C.Cells.ops (g.D.Deaths.left l.deaths) l.bases l.memory
