use Rattle.std.proofs.Common.{◌≡◌, take}
use Rattle.c_typed_stmt.proofs.+copying.Given as goal

abbrev pub invariant-copies::copied_arms-loop-each : goal.invariant-copies::copied_arms-loop-each
invariant-copies::copied_arms-loop-each g l = l.copies ≡ take l.each-index l.all

abbrev pub invariant-copies::copied_stmts-loop-each : goal.invariant-copies::copied_stmts-loop-each
invariant-copies::copied_stmts-loop-each g l = l.copies ≡ take l.each-index l.all
