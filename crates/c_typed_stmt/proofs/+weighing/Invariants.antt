use Rattle.std.proofs.Common.{◌≡◌, ◌+◌, ◌<◌, ◌^◌, drop}
use Rattle.c_typed_stmt.specs.Weights.{weight_of_stmts, weight_of_arms}
use Rattle.c_typed_stmt.proofs.+weighing.Given as goal

abbrev pub invariant-weights::of_arms-loop-each : goal.invariant-weights::of_arms-loop-each
invariant-weights::of_arms-loop-each g l =
    weight_of_arms (g.W.Counter.of_expr l.counter) (g.W.Counter.of_init l.counter) (g.W.Counter.of_pred l.counter) l.all < 2 ^ 62 →
    l.total + weight_of_arms (g.W.Counter.of_expr l.counter) (g.W.Counter.of_init l.counter) (g.W.Counter.of_pred l.counter) (drop l.each-index l.all)
    ≡ weight_of_arms (g.W.Counter.of_expr l.counter) (g.W.Counter.of_init l.counter) (g.W.Counter.of_pred l.counter) l.all

abbrev pub invariant-weights::of_stmts-loop-each : goal.invariant-weights::of_stmts-loop-each
invariant-weights::of_stmts-loop-each g l =
    weight_of_stmts (g.W.Counter.of_expr l.counter) (g.W.Counter.of_init l.counter) (g.W.Counter.of_pred l.counter) l.all < 2 ^ 62 →
    l.total + weight_of_stmts (g.W.Counter.of_expr l.counter) (g.W.Counter.of_init l.counter) (g.W.Counter.of_pred l.counter) (drop l.each-index l.all)
    ≡ weight_of_stmts (g.W.Counter.of_expr l.counter) (g.W.Counter.of_init l.counter) (g.W.Counter.of_pred l.counter) l.all
