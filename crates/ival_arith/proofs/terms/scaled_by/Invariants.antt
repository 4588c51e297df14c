use Rattle.std.proofs.Common.{◌≡◌, drop}
use Rattle.ival_arith.specs.Pieces.{none}
use Rattle.ival_arith.specs.Terms.{scaled_onto}
use Rattle.ival_arith.proofs.terms.scaled_by.Given as goal

abbrev pub invariant-loop-other : goal.invariant-loop-other
invariant-loop-other l = scaled_onto l.all.shape l.set.shape (drop l.other-index l.others) ≡ scaled_onto none l.set.shape l.others
