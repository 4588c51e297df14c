use Rattle.std.proofs.Common.{◌*◌, ◌<◌, ◌^◌, refl, ◌∙◌, arith}
use Rattle.ival_arith.proofs.Codes.{same_run, product_is}
use Rattle.ival_arith.proofs.Parts.{scaled_order, ordered}
use Rattle.ival_arith.proofs.pieces.run_scaled.Goals as goal

pub run_from-requires-clause-order : goal.run_from-requires-clause-order
run_from-requires-clause-order c =
    let k : c.args.k < 2 ^ 64 = omega arith in
    rw (product_is c.args.run.low c.args.k c.requires.run.first k c.requires.low, product_is c.args.run.high c.args.k c.requires.run.last k c.requires.high)
    (scaled_order c.args.run.low c.args.run.high c.args.k (ordered c.args.run c.requires.run))

pub returns : goal.returns
returns c =
    let k : c.args.k < 2 ^ 64 = omega arith in
    c.run_from.ensures.value ∙ same_run _ _ _ _ (c.args.run.stride * c.args.k) (c.args.run.stride * c.args.k) (product_is c.args.run.low c.args.k c.requires.run.first k c.requires.low) (product_is c.args.run.high c.args.k c.requires.run.last k c.requires.high) refl
