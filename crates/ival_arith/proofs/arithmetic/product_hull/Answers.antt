use Rattle.ival_arith.proofs.TableCodes.{type_extent}
use Rattle.ival_arith.proofs.arithmetic.product_hull.Goals as goal

pub product_extent-requires-clause-left : goal.product_extent-requires-clause-left
product_extent-requires-clause-left c = let o = c.args.format in type_extent o.signed o.width c.args.a.now o.some o.room c.requires.left

pub product_extent-requires-clause-right : goal.product_extent-requires-clause-right
product_extent-requires-clause-right c = let o = c.args.format in type_extent o.signed o.width c.args.b.now o.some o.room c.requires.right
