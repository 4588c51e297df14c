use Rattle.avalue_parts.proofs.Rows.{glued_tops, glued_is}
use Rattle.avalue_parts.proofs.bits.glued.Goals as goal

pub concat-requires-clause-high : goal.concat-requires-clause-high
concat-requires-clause-high c = glued_tops c.args.high.now c.extract-top.result c.args.bits c.args.more c.requires c.extract-top.ensures.value

pub returns : goal.returns
returns c = glued_is c.args.low.now c.args.high.now c.extract-top.result c.concat.result c.args.bits c.args.more c.requires c.extract-top.ensures.value c.concat.ensures.value
