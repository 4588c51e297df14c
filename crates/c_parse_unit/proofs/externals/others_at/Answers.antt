use Rattle.c_parse_unit.proofs.Steps.{others_none, others_some}
use Rattle.c_parse_unit.proofs.externals.others_at.Goals as goal

pub returns-in-None-clause-found : goal.returns-in-None-clause-found
returns-in-None-clause-found c =
    others_none _ _ _ _ _ _ _ _ (rw c.in-Some.is at c.in_ok-first.ensures.found) (rw (c.in-None.is, c.new-none.ensures.items) at c.in_ok-more_declarators.ensures.found)

pub returns-in-Some-2-clause-found : goal.returns-in-Some-2-clause-found
returns-in-Some-2-clause-found c =
    others_some _ _ _ _ _ _ _ _ _ _ _ (rw c.in-Some.is at c.in_ok-first.ensures.found) (rw (c.in-Some-2.is, c.new-none.ensures.items) at c.in_ok-more_declarators.ensures.found)
