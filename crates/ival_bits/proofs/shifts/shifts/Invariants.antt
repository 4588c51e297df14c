use Rattle.std.proofs.Common.{◌≡◌}
use Rattle.ival_bits.specs.Shifts.{shifts}
use Rattle.ival_bits.proofs.shifts.shifts.Given as goal

abbrev pub invariant-loop-count : goal.invariant-loop-count
invariant-loop-count l = l.all.shape ≡ shifts l.op l.format.signed l.format.width l.set.shape l.counts.shape l.count
