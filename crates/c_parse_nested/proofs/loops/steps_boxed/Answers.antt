use Rattle.c_parse_nested.proofs.loops.steps_boxed.Goals as goal

pub returns-in-None-clause-found : goal.returns-in-None-clause-found
returns-in-None-clause-found c = λ more. (rw c.in-None.is at c.in_ok-steps_at.ensures.found) more

pub returns-in_ok-new-in-Some-clause-found : goal.returns-in_ok-new-in-Some-clause-found
returns-in_ok-new-in-Some-clause-found c = λ more. rw c.in_ok-new-in-Some.ensures ((rw c.in-Some.is at c.in_ok-steps_at.ensures.found) more)
