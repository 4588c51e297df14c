use Rattle.c_parse_unit.proofs.Steps.{assertion_alone}
use Rattle.c_parse_unit.proofs.externals.asserted_rule.Goals as goal

pub returns-in-Some-clause-found : goal.returns-in-Some-clause-found
returns-in-Some-clause-found c =
    let e = rw c.in-Some.is at c.in_ok-assertion_rule.ensures.found in
    rw (assertion_alone c.in-Some.assertion _ _ _ e) e
