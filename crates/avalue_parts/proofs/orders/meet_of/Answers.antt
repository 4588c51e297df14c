use Rattle.avalue_base.proofs.Meets.{meet_same}
use Rattle.avalue_parts.proofs.orders.meet_of.Goals as goal

pub returns : goal.returns
returns c = meet_same c.args.a.now c.args.b.now c.meet.result c.meet.ensures
