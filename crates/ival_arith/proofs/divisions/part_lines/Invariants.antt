use Rattle.std.proofs.Common.{◌≡◌, drop}
use Rattle.ival_arith.specs.Pieces.{none}
use Rattle.ival_arith.specs.Values.{part_lines}
use Rattle.ival_arith.proofs.divisions.part_lines.Given as goal

abbrev pub invariant-loop-other : goal.invariant-loop-other
invariant-loop-other l =
    part_lines l.part l.format.signed l.format.width l.all.shape l.set.shape (drop l.other-index l.others) ≡ part_lines l.part l.format.signed l.format.width none l.set.shape l.others
