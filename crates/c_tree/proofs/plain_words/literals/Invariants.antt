use Rattle.std.proofs.Common.{◌≡◌, ◌++◌, drop}
use Rattle.c_tree.specs.Spelling.{words_of, pieces_of_literals}
use Rattle.c_tree.proofs.plain_words.literals.Given as goal

abbrev pub invariant-loop-literal : goal.invariant-loop-literal
invariant-loop-literal l = l.out ++ words_of (pieces_of_literals (drop l.literal-index l.all)) ≡ l.initial.out ++ words_of (pieces_of_literals l.all)
