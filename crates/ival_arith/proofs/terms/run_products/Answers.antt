use Rattle.std.proofs.Common.{rules}
use Rattle.ival_arith.proofs.terms.run_products.Goals as goal
use Rattle.ival_arith.proofs.TermCodes.{product_run_few, product_runs}

-- src/terms.rt:146:1
pub returns-in-Few : goal.returns-in-Few
returns-in-Few c = product_run_few c.args.a.now.shape c.args.b.now.shape c.shape.result.now c.scaled_by.result.shape c.args.run c.in-Few.few c.as_slice.result.now c.requires.run (search rules) c.in-Few.is (search rules) c.scaled_by.ensures

-- src/terms.rt:146:1
pub returns-in-Many : goal.returns-in-Many
returns-in-Many c = product_runs c.args.a.now.shape c.args.b.now.shape c.shape.result.now c.product_hull.result.shape c.args.run c.in-Many.field-0 c.requires.run (search rules) c.in-Many.is c.product_hull.ensures
