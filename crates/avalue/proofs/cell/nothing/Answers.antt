use Rattle.avalue_values.proofs.Values.{nothing_is}
use Rattle.avalue.proofs.cell.nothing.Goals as goal

pub returns : goal.returns
returns c = nothing_is c.empty.result c.number.result c.number.ensures c.empty.ensures.value
