use Rattle.c_parse_initialisers.proofs.Shorter.{expr_shorter}
use Rattle.c_parse_initialisers.proofs.parts.expr_at.Goals as goal

pub returns-clause-shorter : goal.returns-clause-shorter
returns-clause-shorter c = expr_shorter _ _ _ _ _ _ c.expr_within.ensures.read
