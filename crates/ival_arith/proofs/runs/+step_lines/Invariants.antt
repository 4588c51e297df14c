use Rattle.ival_arith.proofs.runs.+step_lines.Given as goal

abbrev pub decreases-step_lines : goal.decreases-step_lines
decreases-step_lines l = l.count
