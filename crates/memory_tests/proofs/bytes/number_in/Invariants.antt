use Rattle.memory_tests.proofs.bytes.number_in.Given as goal

abbrev pub decreases-loop-i : goal.decreases-loop-i
decreases-loop-i l = l.i
