use Rattle.ival_arith.proofs.floors.floored.Goals as goal
use Rattle.ival_arith.proofs.FloorCodes.{floored_few, floored_run}

-- src/parts.rt:57:1
pub returns-in-Few : goal.returns-in-Few
returns-in-Few c = floored_few c.args.d c.args.set.now.shape c.shape.result.now c.few_floored.result.shape _ c.as_slice.result.now c.shape.ensures c.in-Few.is c.as_slice.ensures.value c.few_floored.ensures

-- src/parts.rt:57:1
pub returns-in-Many : goal.returns-in-Many
returns-in-Many c = floored_run c.args.d c.args.set.now.shape c.shape.result.now c.run_floored.result.shape _ c.shape.ensures c.in-Many.is c.run_floored.ensures
