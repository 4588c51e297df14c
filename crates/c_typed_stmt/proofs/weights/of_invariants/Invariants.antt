use Rattle.std.proofs.Common.{◌≡◌, ◌+◌, ◌<◌, ◌^◌, drop, map, sum}
use Rattle.c_typed_stmt.proofs.weights.of_invariants.Given as goal

abbrev pub invariant-loop-each : goal.invariant-loop-each
invariant-loop-each g l =
    sum (map (g.W.Counter.of_pred l.counter) l.all) < 2 ^ 62 →
    l.total + sum (map (g.W.Counter.of_pred l.counter) (drop l.each-index l.all)) ≡ sum (map (g.W.Counter.of_pred l.counter) l.all)
