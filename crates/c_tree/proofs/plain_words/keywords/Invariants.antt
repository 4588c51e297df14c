use Rattle.std.proofs.Common.{◌≡◌, ◌++◌, drop}
use Rattle.c_tree.specs.Spelling.{words_of, pieces_of_keywords}
use Rattle.c_tree.proofs.plain_words.keywords.Given as goal

abbrev pub invariant-loop-each : goal.invariant-loop-each
invariant-loop-each l = l.out ++ words_of (pieces_of_keywords (drop l.each-index l.all)) ≡ l.initial.out ++ words_of (pieces_of_keywords l.all)
