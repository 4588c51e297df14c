use Rattle.std.proofs.Common.{◌≡◌, ◌+◌, ◌<◌, ◌^◌, drop, map, sum}
use Rattle.c_types.specs.Views.{type_of}
use Rattle.c_weights.specs.Flags.{flag}
use Rattle.c_weights.proofs.weights.TableCallees.count.Given as goal

abbrev pub invariant-loop-each : goal.invariant-loop-each
invariant-loop-each l =
    sum (map (flag (type_of l.t)) l.each-items) < 2 ^ 62 →
    l.total + sum (map (flag (type_of l.t)) (drop l.each-index l.each-items)) ≡ sum (map (flag (type_of l.t)) l.each-items)
