use Rattle.std.proofs.Common.{◌≡◌, ◌+◌, ◌<◌, ◌^◌, drop}
use Rattle.c_typed_expr.specs.Nodes.{nodes_of_all, nodes_of_steps, nodes_of_operands}
use Rattle.c_typed_expr.proofs.+counting.Given as goal

abbrev pub invariant-nodes::of_exprs-loop-each : goal.invariant-nodes::of_exprs-loop-each
invariant-nodes::of_exprs-loop-each g l = nodes_of_all (g.C.Callees.counted l.table) l.all < 2 ^ 62 → l.total + nodes_of_all (g.C.Callees.counted l.table) (drop l.each-index l.all) ≡ nodes_of_all (g.C.Callees.counted l.table) l.all

abbrev pub invariant-nodes::of_operands-loop-each : goal.invariant-nodes::of_operands-loop-each
invariant-nodes::of_operands-loop-each g l = nodes_of_operands (g.C.Callees.counted l.table) l.all < 2 ^ 62 → l.total + nodes_of_operands (g.C.Callees.counted l.table) (drop l.each-index l.all) ≡ nodes_of_operands (g.C.Callees.counted l.table) l.all

abbrev pub invariant-nodes::of_steps-loop-each : goal.invariant-nodes::of_steps-loop-each
invariant-nodes::of_steps-loop-each g l = nodes_of_steps (g.C.Callees.counted l.table) l.all < 2 ^ 62 → l.total + nodes_of_steps (g.C.Callees.counted l.table) (drop l.each-index l.all) ≡ nodes_of_steps (g.C.Callees.counted l.table) l.all
