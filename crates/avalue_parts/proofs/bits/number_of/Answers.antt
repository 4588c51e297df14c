use Rattle.std.proofs.Common.{◌-◌, arith}
use Rattle.avalue_parts.proofs.Rows.{no_bits, bits_small, bits_step}
use Rattle.avalue_parts.proofs.bits.number_of.Goals as goal

pub loop-left-init : goal.loop-left-init
loop-left-init c = record { value = no_bits c.args.bits.now; inside = omega arith }

pub with_low-number-requires : goal.with_low-number-requires
with_low-number-requires c = bits_small c.args.bits.now c.loop-left.left c.loop-left.number c.loop-left-test.true c.loop-left.invariant.inside c.requires c.loop-left.invariant.value

pub loop-left-preserved : goal.loop-left-preserved
loop-left-preserved c =
    let i = c.loop-left.invariant.inside in
    let t = c.loop-left-test.true in
    record {
      value = bits_step c.args.bits.now (c.loop-left.left - 1) c.loop-left.left c.loop-left.number c.with_low-number.result (omega arith) (omega arith) c.loop-left.invariant.value c.with_low-number.ensures;
      inside = omega arith;
    }
