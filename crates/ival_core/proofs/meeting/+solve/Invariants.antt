use Rattle.ival_core.proofs.meeting.+solve.Given as goal

abbrev pub decreases-solve : goal.decreases-solve
decreases-solve l = l.modulus
