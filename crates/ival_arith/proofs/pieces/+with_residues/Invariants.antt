use Rattle.ival_arith.proofs.pieces.+with_residues.Given as goal

abbrev pub decreases-with_residues : goal.decreases-with_residues
decreases-with_residues l = l.count
