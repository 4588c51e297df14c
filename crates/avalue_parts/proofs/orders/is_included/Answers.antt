use Rattle.avalue_base.proofs.Sets.{lies_same}
use Rattle.avalue_parts.proofs.orders.is_included.Goals as goal

pub returns : goal.returns
returns c = lies_same c.args.a.now c.args.b.now c.included.result c.included.ensures
