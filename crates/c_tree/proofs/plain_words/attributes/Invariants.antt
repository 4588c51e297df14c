use Rattle.std.proofs.Common.{◌≡◌, ◌++◌, drop}
use Rattle.c_tree.specs.Spelling.{words_of, pieces_of_attributes}
use Rattle.c_tree.proofs.plain_words.attributes.Given as goal

abbrev pub invariant-loop-each : goal.invariant-loop-each
invariant-loop-each l = l.out ++ words_of (pieces_of_attributes (drop l.each-index l.all)) ≡ l.initial.out ++ words_of (pieces_of_attributes l.all)
