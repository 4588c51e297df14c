use Rattle.c_lex.proofs.Spellings.{LooksFor}
use Rattle.c_lex.proofs.word.keyword_among.Given as goal

abbrev pub invariant-loop-spelling : goal.invariant-loop-spelling
invariant-loop-spelling l = LooksFor l.spellings l.text l.spelling-index
