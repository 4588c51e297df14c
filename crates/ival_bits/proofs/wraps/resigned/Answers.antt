use Rattle.std.proofs.Common.{rules, ◌≡◌, ◌^◌, ◌-◌, pos}
use Rattle.ival_arith.specs.Pieces.{clipped}
use Rattle.ival_bits.proofs.wraps.resigned.Goals as goal
use Rattle.std.proofs.Common.{◌^◌}
use Rattle.ival_bits.proofs.WrapSets.{resigned_signed, resigned_unsigned}

-- src/wraps.rt:69:1
pub returns-then-signed : goal.returns-then-signed
returns-then-signed c =
    let e : c.clipped-low.result.shape ≡ clipped (pos 0) (pos (2 ^ (c.args.bits - 1) - 1)) c.args.patterns.now.shape = search rules in
    resigned_signed c.args.signed c.args.bits c.args.patterns.now.shape c.clipped-low.result.shape c.negatives.result.shape c.join.result.shape c.if-signed.true e c.negatives.ensures c.join.ensures

-- src/wraps.rt:69:1
pub returns-else-signed : goal.returns-else-signed
returns-else-signed c = resigned_unsigned c.args.signed c.args.bits c.args.patterns.now.shape c.copy.result.shape c.if-signed.false (search rules)
