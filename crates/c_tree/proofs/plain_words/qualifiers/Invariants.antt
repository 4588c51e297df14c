use Rattle.std.proofs.Common.{◌≡◌, ◌++◌, drop}
use Rattle.c_tree.specs.Spelling.{words_of, pieces_of_qualifiers}
use Rattle.c_tree.proofs.plain_words.qualifiers.Given as goal

abbrev pub invariant-loop-each : goal.invariant-loop-each
invariant-loop-each l = l.out ++ words_of (pieces_of_qualifiers (drop l.each-index l.all)) ≡ l.initial.out ++ words_of (pieces_of_qualifiers l.all)
