use Rattle.std.proofs.Common.{◌∙◌, sym, ap}
use Rattle.c_lex.specs.Words.{keyword_in, keywords}
use Rattle.c_lex.proofs.Spellings.{by_length}
use Rattle.c_lex.proofs.word.find_keyword.Goals as goal

pub returns : goal.returns
returns c = c.keyword_among.ensures ∙ ap (λ table. keyword_in table c.args.text.now) c.spellings_of.ensures ∙ sym (by_length keywords c.args.text.now)
