use Rattle.offmap_tests.proofs.sample.modulus.Given as goal

abbrev pub decreases-loop-left : goal.decreases-loop-left
decreases-loop-left l = l.left
