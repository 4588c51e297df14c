use Rattle.std.proofs.Common.{◌≡◌, take}
use Rattle.c_typed_term.proofs.+copying_predicates.Given as goal

abbrev pub invariant-predicate_copies::copied_predicates-loop-each : goal.invariant-predicate_copies::copied_predicates-loop-each
invariant-predicate_copies::copied_predicates-loop-each l = l.copies ≡ take l.each-index l.all
