use Rattle.std.proofs.Common.{◌≡◌, ◌+◌, ◌<◌, ◌^◌, drop}
use Rattle.c_typed_term.specs.Nodes.{nodes_of_behaviours}
use Rattle.c_typed_term.proofs.nodes.of_behaviours.Given as goal

abbrev pub invariant-loop-each : goal.invariant-loop-each
invariant-loop-each l = nodes_of_behaviours l.all < 2 ^ 62 → l.total + nodes_of_behaviours (drop l.each-index l.all) ≡ nodes_of_behaviours l.all
