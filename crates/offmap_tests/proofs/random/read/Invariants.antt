use Rattle.offmap_tests.proofs.random.read.Given as goal

abbrev pub decreases-loop-i : goal.decreases-loop-i
decreases-loop-i l = l.i
