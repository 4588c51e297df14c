use Rattle.c_lex.proofs.Marking.{is_spelled}
use Rattle.c_lex.proofs.punctuator.spelling_of.Goals as goal

pub returns-clause-law : goal.returns-clause-law
returns-clause-law c = is_spelled c.args.mark
