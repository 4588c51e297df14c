use Rattle.std.proofs.Common.{◌≡◌, drop}
use Rattle.ival_core.specs.Joined.{with_numbers}
use Rattle.ival_arith.specs.Values.{row}
use Rattle.ival_arith.proofs.values.with_row.Given as goal

abbrev pub invariant-loop-y : goal.invariant-loop-y
invariant-loop-y l =
    with_numbers l.all.shape (row l.op l.format.signed l.format.width l.x (drop l.y-index l.others)) ≡ with_numbers l.set.shape (row l.op l.format.signed l.format.width l.x l.others)
