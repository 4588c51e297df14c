use Rattle.std.proofs.Common.{◌≡◌, take}
use Rattle.c_typed_expr.proofs.+copying.Given as goal

abbrev pub invariant-copies::copied_exprs-loop-each : goal.invariant-copies::copied_exprs-loop-each
invariant-copies::copied_exprs-loop-each l = l.copies ≡ take l.each-index l.all

abbrev pub invariant-copies::copied_operands-loop-each : goal.invariant-copies::copied_operands-loop-each
invariant-copies::copied_operands-loop-each l = l.copies ≡ take l.each-index l.all

abbrev pub invariant-copies::copied_steps-loop-each : goal.invariant-copies::copied_steps-loop-each
invariant-copies::copied_steps-loop-each l = l.copies ≡ take l.each-index l.all
