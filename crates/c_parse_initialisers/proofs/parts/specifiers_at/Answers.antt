use Rattle.c_parse_initialisers.proofs.Shorter.{specifiers_shorter}
use Rattle.c_parse_initialisers.proofs.parts.specifiers_at.Goals as goal

pub returns-clause-shorter : goal.returns-clause-shorter
returns-clause-shorter c = specifiers_shorter _ _ _ _ _ c.specifiers_within.ensures.read
