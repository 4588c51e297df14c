use Rattle.std.proofs.Common.{◌≡◌, ◌+◌, ◌<◌, ◌^◌, drop}
use Rattle.c_typed_term.specs.Nodes.{nodes_of_steps, nodes_of_operands}
use Rattle.c_typed_term.proofs.+counting_terms.Given as goal

abbrev pub invariant-nodes::of_operands-loop-each : goal.invariant-nodes::of_operands-loop-each
invariant-nodes::of_operands-loop-each l = nodes_of_operands l.all < 2 ^ 62 → l.total + nodes_of_operands (drop l.each-index l.all) ≡ nodes_of_operands l.all

abbrev pub invariant-nodes::of_steps-loop-each : goal.invariant-nodes::of_steps-loop-each
invariant-nodes::of_steps-loop-each l = nodes_of_steps l.all < 2 ^ 62 → l.total + nodes_of_steps (drop l.each-index l.all) ≡ nodes_of_steps l.all
