use Rattle.std.proofs.Common.{length, ◌/◌}
use Rattle.avalue_values.proofs.Mixes.{halves}
use Rattle.avalue_values.proofs.mix.+gather.Goals as goal

pub returns : goal.returns
returns t c =
    halves c.union.result c.args.bases.now (length c.args.bases.now / 2) c.in_ok-first.first.items c.in_ok-second.second.items c.as_slice.result.now c.as_slice-2.result.now
    c.in_ok-first.ensures c.in_ok-second.ensures c.as_slice.ensures c.as_slice-2.ensures c.union.ensures
