use Rattle.std.proofs.Common.{◌≡◌, ◌+◌, ◌<◌, ◌^◌, drop}
use Rattle.c_typed_term.specs.Nodes.{nodes_of_predicates}
use Rattle.c_typed_term.proofs.+counting_predicates.Given as goal

abbrev pub invariant-nodes::of_predicates-loop-each : goal.invariant-nodes::of_predicates-loop-each
invariant-nodes::of_predicates-loop-each l = nodes_of_predicates l.all < 2 ^ 62 → l.total + nodes_of_predicates (drop l.each-index l.all) ≡ nodes_of_predicates l.all
