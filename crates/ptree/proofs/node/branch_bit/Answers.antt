use Rattle.std.proofs.Common.{◌≡◌, ◌<◌, ◌/◌, ◌^◌, arith, ap, ◌∙◌}
use Rattle.std.proofs.lemmas.Nat.{shr-shr}
use Rattle.ptree.proofs.Bits.{bit_in_range}
use Rattle.ptree.proofs.node.branch_bit.Goals as goal

pub overflow_add-bit : goal.overflow_add-bit
overflow_add-bit c =
    let high : c.loop-a.b ≡ c.args.high / 2 ^ c.loop-a.bit = c.loop-a.invariant.1 in
    let above : 0 < c.args.high / 2 ^ c.loop-a.bit = omega arith in
    let small = bit_in_range c.args.high c.loop-a.bit c.ranges.high.fits above in
    omega arith

pub loop-a-preserved : goal.loop-a-preserved
loop-a-preserved c =
    (ap (λ n. n / 2) c.loop-a.invariant.0 ∙ shr-shr c.args.low c.loop-a.bit 1, ap (λ n. n / 2) c.loop-a.invariant.1 ∙ shr-shr c.args.high c.loop-a.bit 1, omega arith)

pub returns : goal.returns
returns c =
    let low : c.loop-a.a ≡ c.args.low / 2 ^ c.loop-a.bit = c.loop-a.invariant.0 in
    let high : c.loop-a.b ≡ c.args.high / 2 ^ c.loop-a.bit = c.loop-a.invariant.1 in
    let above : 0 < c.args.high / 2 ^ c.loop-a.bit = omega arith in
    record {
      bit_in_range = bit_in_range c.args.high c.loop-a.bit c.ranges.high.fits above;
      next = omega arith;
      bit_set = omega arith;
    }
