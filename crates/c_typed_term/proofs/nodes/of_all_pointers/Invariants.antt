use Rattle.std.proofs.Common.{◌≡◌, ◌+◌, ◌<◌, ◌^◌, drop}
use Rattle.c_typed_term.specs.Nodes.{nodes_of_all_pointers}
use Rattle.c_typed_term.proofs.nodes.of_all_pointers.Given as goal

abbrev pub invariant-loop-each : goal.invariant-loop-each
invariant-loop-each l = nodes_of_all_pointers l.all < 2 ^ 62 → l.total + nodes_of_all_pointers (drop l.each-index l.all) ≡ nodes_of_all_pointers l.all
