use Rattle.std.proofs.Common.{◌≡◌, ◌≤◌, ◌<◌, get_or, rules, arith}
use Rattle.c_lex.specs.Numbers.{digit_value}
use Rattle.c_lex.proofs.Digits.{value_beyond, value_step, number_read}
use Rattle.c_lex.proofs.number.read_digits.Goals as goal

pub returns-then-value-digit : goal.returns-then-value-digit
returns-then-value-digit c =
    let d : c.from-digit.result ≡ digit_value (get_or c.args.digits.now c.loop-byte.byte-index 0) = cc in
    let some : 0 < c.base_of-base.result = omega arith in
    let small : c.from-digit.result ≤ 340282366920938463463374607431768211455 = omega (arith, c.from-digit.type_inv) in
    value_beyond c.args.radix c.loop-byte.value c.base_of-base.result c.from-digit.result c.args.digits.now c.loop-byte.byte-index c.loop-byte-test.true
    c.base_of-base.ensures.value d some small c.if-value-digit.true c.loop-byte.invariant.left

pub loop-byte-preserved : goal.loop-byte-preserved
loop-byte-preserved c =
    let d : c.from-digit.result ≡ digit_value (get_or c.args.digits.now c.loop-byte.byte-index 0) = cc in
    let some : 0 < c.base_of-base.result = omega arith in
    let small : c.from-digit.result ≤ 340282366920938463463374607431768211455 = omega (arith, c.from-digit.type_inv) in
    let s = value_step c.args.radix c.loop-byte.value c.base_of-base.result c.from-digit.result c.args.digits.now c.loop-byte.byte-index c.loop-byte-test.true
    c.base_of-base.ensures.value d some small c.if-value-digit.false c.loop-byte.invariant.left in
    record { small = s.small; left = s.left }

pub returns : goal.returns
returns c = number_read c.args.radix c.loop-byte.value c.args.digits.now c.loop-byte.byte-index (search rules) c.loop-byte.invariant.small c.loop-byte.invariant.left
