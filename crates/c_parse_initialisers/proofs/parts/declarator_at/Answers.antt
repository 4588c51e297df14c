use Rattle.c_parse_initialisers.proofs.Shorter.{declarator_shorter}
use Rattle.c_parse_initialisers.proofs.parts.declarator_at.Goals as goal

pub returns-clause-shorter : goal.returns-clause-shorter
returns-clause-shorter c = declarator_shorter _ _ _ _ _ _ c.declarator_within.ensures.read
