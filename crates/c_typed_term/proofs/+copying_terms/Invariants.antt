use Rattle.std.proofs.Common.{◌≡◌, take}
use Rattle.c_typed_term.proofs.+copying_terms.Given as goal

abbrev pub invariant-term_copies::copied_operands-loop-each : goal.invariant-term_copies::copied_operands-loop-each
invariant-term_copies::copied_operands-loop-each l = l.copies ≡ take l.each-index l.all

abbrev pub invariant-term_copies::copied_steps-loop-each : goal.invariant-term_copies::copied_steps-loop-each
invariant-term_copies::copied_steps-loop-each l = l.copies ≡ take l.each-index l.all
