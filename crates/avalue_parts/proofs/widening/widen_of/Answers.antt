use Rattle.avalue_parts.proofs.Marks.{widen_same}
use Rattle.avalue_parts.proofs.widening.widen_of.Goals as goal

pub returns : goal.returns
returns c = widen_same c.args.marks.now c.args.a.now c.args.b.now c.widen.result c.widen.ensures.value
