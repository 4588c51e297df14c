use Rattle.avalue_base.proofs.Sets.{join_same}
use Rattle.avalue_parts.proofs.orders.joined.Goals as goal

pub returns : goal.returns
returns c = join_same c.args.a.now c.args.b.now c.join.result c.join.ensures
