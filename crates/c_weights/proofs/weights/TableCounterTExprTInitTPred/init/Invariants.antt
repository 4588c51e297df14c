use Rattle.std.proofs.Common.{◌≡◌, ◌+◌, ◌<◌, ◌^◌, drop, map, sum}
use Rattle.c_program.specs.Weights.{item_nodes}
use Rattle.c_weights.specs.Flags.{flagged}
use Rattle.c_weights.proofs.weights.TableCounterTExprTInitTPred.init.Given as goal

abbrev pub invariant-loop-each : goal.invariant-loop-each
invariant-loop-each l =
    sum (map (item_nodes (flagged l.self.bases.now)) l.each-items) < 2 ^ 62 →
    l.total + sum (map (item_nodes (flagged l.self.bases.now)) (drop l.each-index l.each-items)) ≡ sum (map (item_nodes (flagged l.self.bases.now)) l.each-items)
