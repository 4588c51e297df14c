use Rattle.c_parse_unit.proofs.Units.{unit_none, unit_some}
use Rattle.c_parse_unit.proofs.parse.unit_within.Goals as goal

pub returns-in-None : goal.returns-in-None
returns-in-None c = record { found = unit_none c.args.depth _ c.args.tokens.now c.requires.names (rw c.in-None.is at c.in_ok-externals_at.ensures.found) }

pub returns-in-Some : goal.returns-in-Some
returns-in-Some c = record { found = unit_some c.args.depth _ _ _ c.args.tokens.now c.requires.names (rw c.in-Some.is at c.in_ok-externals_at.ensures.found) }
