use Rattle.c_parse_attributes.proofs.code.Membership.{assertion_read}
use Rattle.c_parse_members.proofs.members.assertion_at.Goals as goal

pub returns-in-Some-2-clause-found : goal.returns-in-Some-2-clause-found
returns-in-Some-2-clause-found g c =
    rw (c.assertion_end.ensures.same, ← c.expect_punctuator.ensures.same)
    (assertion_read _ c.args.span _ _ _ _ _ c.assertion_end.result c.in-Some.ensures.found c.in-Some.ensures.shorter (rw c.in-Some-2.is at c.in_ok-expr.ensures.found)
    (c.assertion_end.ensures.found c.expect_punctuator.new.names.names))
