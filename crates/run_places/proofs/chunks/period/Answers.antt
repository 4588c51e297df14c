use Rattle.std.proofs.Common.{arith}
use Rattle.run_places.proofs.Repeating.{period_whole}
use Rattle.run_places.proofs.chunks.period.Goals as goal

pub returns : goal.returns
returns c = period_whole c.args.whole c.args.bits c.loop-n.n c.requires.some (omega arith) c.loop-n.invariant.most
