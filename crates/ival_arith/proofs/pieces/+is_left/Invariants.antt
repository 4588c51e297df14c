use Rattle.ival_arith.proofs.pieces.+is_left.Given as goal

abbrev pub decreases-is_left : goal.decreases-is_left
decreases-is_left l = l.count
