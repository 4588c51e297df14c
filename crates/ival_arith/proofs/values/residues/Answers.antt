use Rattle.ival_arith.proofs.ValueCodes.{residues_few, residues_run}
use Rattle.ival_arith.proofs.values.residues.Goals as goal

pub returns-in-Few : goal.returns-in-Few
returns-in-Few c = residues_few c.args.m c.args.set.now.shape c.shape.result.now c.few_residues.result.shape _ c.as_slice.result.now c.shape.ensures c.in-Few.is c.as_slice.ensures.value c.few_residues.ensures

pub returns-in-Many : goal.returns-in-Many
returns-in-Many c = residues_run c.args.m c.args.set.now.shape c.shape.result.now c.run_residues.result.shape _ c.shape.ensures c.in-Many.is c.run_residues.ensures
