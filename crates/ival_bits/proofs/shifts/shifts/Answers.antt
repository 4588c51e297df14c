use Rattle.std.proofs.Common.{◌≡◌, ap, ◌∙◌, arith}
use Rattle.ival_bits.specs.Shifts.{shifts}
use Rattle.ival_bits.proofs.shifts.shifts.Goals as goal

pub returns : goal.returns
returns c =
    let a = c.args in
    let e : c.loop-count.count ≡ a.format.width = omega arith in
    c.loop-count.invariant ∙ ap (shifts a.op a.format.signed a.format.width a.set.now.shape a.counts.now.shape) e
