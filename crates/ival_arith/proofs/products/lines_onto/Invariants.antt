use Rattle.std.proofs.Common.{◌≡◌, drop}
use Rattle.ival_arith.specs.Values.{lines_onto}
use Rattle.ival_arith.proofs.products.lines_onto.Given as goal

abbrev pub invariant-loop-other : goal.invariant-loop-other
invariant-loop-other l =
    lines_onto l.format.signed l.format.width l.all.shape l.run (drop l.other-index l.others) ≡ lines_onto l.format.signed l.format.width l.set.shape l.run l.others
