use Rattle.c_parse_unit.proofs.Units.{no_unit, unit_read}
use Rattle.c_parse_unit.proofs.parse.parse_unit.Goals as goal

pub returns-in-Some-clause-parsed : goal.returns-in-Some-clause-parsed
returns-in-Some-clause-parsed c = unit_read 200 _ _ c.args.tokens.now (rw c.in-Some.is at c.in_ok-unit.ensures.found)

pub returns-clause-none : goal.returns-clause-none
returns-clause-none c = λ at e. no_unit 200 c.args.tokens.now (rw c.in-None.is at c.in_ok-unit.ensures.found)
