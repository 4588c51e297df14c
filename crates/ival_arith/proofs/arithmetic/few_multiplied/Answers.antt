use Rattle.ival_core.proofs.Runs.{Steps-low}
use Rattle.ival_arith.proofs.Codes.{has_run, valid_run}
use Rattle.ival_arith.proofs.TableCodes.{multiplied_none, multiplied_few_run}
use Rattle.ival_arith.proofs.arithmetic.few_multiplied.Goals as goal

pub lines-requires-clause-low : goal.lines-requires-clause-low
lines-requires-clause-low c =
    c.requires.right.fits _ (has_run c.args.b.now.shape c.shape.result.now _ c.shape.ensures c.in-Many.is _
    (Steps-low _ (valid_run c.args.b.now.shape c.shape.result.now _ c.shape.ensures c.in-Many.is c.args.b.now.valid)))

pub returns-in-Few : goal.returns-in-Few
returns-in-Few c = let o = c.args.format in multiplied_none o.signed o.width c.args.a.now.shape c.args.b.now.shape c.shape.result.now c.empty.result.shape _ _ c.requires.few c.shape.ensures c.in-Few.is c.empty.ensures.value

pub returns-in-Many : goal.returns-in-Many
returns-in-Many c = let o = c.args.format in multiplied_few_run o.signed o.width c.args.a.now.shape c.args.b.now.shape c.shape.result.now c.lines.result.shape _ _ c.requires.few c.shape.ensures c.in-Many.is c.lines.ensures
