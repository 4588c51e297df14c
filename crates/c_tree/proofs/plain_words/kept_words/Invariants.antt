use Rattle.std.proofs.Common.{◌≡◌, ◌++◌, drop}
use Rattle.c_tree.specs.Spelling.{words_of, pieces_of_words}
use Rattle.c_tree.proofs.plain_words.kept_words.Given as goal

abbrev pub invariant-loop-word : goal.invariant-loop-word
invariant-loop-word l = l.out ++ words_of (pieces_of_words (drop l.word-index l.all)) ≡ l.initial.out ++ words_of (pieces_of_words l.all)
