use Rattle.std.proofs.Common.{rules}
use Rattle.c_lex.proofs.Spellings.{looks_none}
use Rattle.c_lex.proofs.word.keyword_among.Goals as goal

pub returns : goal.returns
returns c = looks_none c.args.spellings.now c.args.text.now c.loop-spelling.spelling-index (search rules) c.loop-spelling.invariant
