use Rattle.avalue_parts.proofs.Rows.{part_is}
use Rattle.avalue_parts.proofs.bits.part.Goals as goal

pub returns : goal.returns
returns c = part_is c.args.low c.args.count c.args.numbers.now c.extract.result c.requires c.extract.ensures.value
