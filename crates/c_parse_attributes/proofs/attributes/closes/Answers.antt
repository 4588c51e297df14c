use Rattle.c_parse_attributes.proofs.code.Plainly.{closed}
use Rattle.c_parse_attributes.proofs.attributes.closes.Goals as goal

pub returns-in-Some : goal.returns-in-Some
returns-in-Some c = closed _ _ _ _ _ c.in-Some.ensures.items c.eq.ensures
