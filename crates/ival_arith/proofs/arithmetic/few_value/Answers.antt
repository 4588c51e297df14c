use Rattle.std.proofs.Common.{refl}
use Rattle.ival_arith.proofs.TableCodes.{value_few, value_few_run}
use Rattle.ival_arith.proofs.arithmetic.few_value.Goals as goal

pub returns-in-Few : goal.returns-in-Few
returns-in-Few c =
    let o = c.args.format in
    value_few c.args.op o.signed o.width c.args.a.now.shape c.args.b.now.shape c.args.a.now.shape c.shape.result.now c.few_results.result.shape _ _ c.args.numbers.now c.as_slice.result.now refl c.requires.few refl c.shape.ensures c.in-Few.is c.as_slice.ensures.value c.few_results.ensures

pub returns-in-Many : goal.returns-in-Many
returns-in-Many c =
    let o = c.args.format in
    value_few_run c.args.op o.signed o.width c.args.a.now.shape c.args.b.now.shape c.args.a.now.shape c.shape.result.now c.long_value.result.shape _ _ refl c.requires.few c.shape.ensures c.in-Many.is c.long_value.ensures
