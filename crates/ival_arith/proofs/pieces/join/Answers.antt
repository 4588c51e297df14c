use Rattle.ival_core.proofs.Joined.{joined_is}
use Rattle.ival_arith.proofs.pieces.join.Goals as goal

pub returns : goal.returns
returns c = joined_is c.args.a.now c.args.b.now c.join.result c.join.ensures
