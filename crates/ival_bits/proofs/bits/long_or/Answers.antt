use Rattle.ival_bits.proofs.Sizes.{sum_number}
use Rattle.ival_bits.proofs.bits.long_or.Goals as goal

pub sums-requires-clause-sums : goal.sums-requires-clause-sums
sums-requires-clause-sums c x y h k =
    let o = c.args.format in
    sum_number o.signed o.width x y o.room (c.requires.left.fits x h) (c.requires.right.fits y k)
