use Rattle.c_parse_operators.proofs.code.Extending.{put_assignment, put_unassigned}
use Rattle.c_parse_operators.proofs.expression.assignment_at.Goals as goal

pub returns-in-Some-clause-found : goal.returns-in-Some-clause-found
returns-in-Some-clause-found g c =
    put_assignment c.assignment_of.result _ _ c.args.span c.args.first c.in-Some.value c.may_assign-may.result _ _ c.assignment_of.ensures.same c.assignment_of.ensures.height
    (rw c.in-Some.is at c.in_ok-value.ensures.found) (rw (← c.depth.ensures.same) c.may_assign-may.ensures)

pub returns-in-None-clause-found : goal.returns-in-None-clause-found
returns-in-None-clause-found g c =
    put_unassigned c.unassigned.result _ _ c.args.span c.args.first c.may_assign-may.result _ _ _ c.unassigned.ensures.found
    (rw c.in-None.is at c.in_ok-value.ensures.found) (rw c.in-None.is at c.in_ok-value.ensures.unchanged) (rw (← c.depth.ensures.same) c.may_assign-may.ensures)
