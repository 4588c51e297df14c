use Rattle.ival_arith.proofs.TableCodes.{value_run}
use Rattle.ival_arith.proofs.arithmetic.value.Goals as goal

pub returns-in-Many : goal.returns-in-Many
returns-in-Many c =
    let o = c.args.format in
    value_run c.args.op o.signed o.width c.args.a.now.shape c.args.b.now.shape c.shape.result.now c.long_value.result.shape _ c.shape.ensures c.in-Many.is c.long_value.ensures
