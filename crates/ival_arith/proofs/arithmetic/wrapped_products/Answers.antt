use Rattle.ival_arith.proofs.CrossCodes.{short_run}
use Rattle.ival_arith.proofs.arithmetic.wrapped_products.Goals as goal

pub all_repeat-requires-clause-left : goal.all_repeat-requires-clause-left
all_repeat-requires-clause-left c = let o = c.args.format in short_run o.signed o.width c.args.a.now.shape c.args.run c.requires.unsigned o.room c.requires.run c.args.a.now.valid c.requires.left.fits

pub all_repeat-requires-clause-right : goal.all_repeat-requires-clause-right
all_repeat-requires-clause-right c = let o = c.args.format in short_run o.signed o.width c.args.b.now.shape c.args.other c.requires.unsigned o.room c.requires.other c.args.b.now.valid c.requires.right.fits
