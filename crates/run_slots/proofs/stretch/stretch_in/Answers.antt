use Rattle.std.proofs.Common.{◌∙◌, ◌*◌, ◌-◌, arith}
use Rattle.run_slots.proofs.Again.{wide_fits}
use Rattle.run_slots.proofs.Stretching.{in_short, in_wide, in_rest, one_of_none, or_one_some}
use Rattle.run_slots.proofs.stretch.stretch_in.Goals as goal

pub returns-then-rest-over : goal.returns-then-rest-over
returns-then-rest-over c = in_short c.args.bits c.args.rest c.args.wide c.args.reach c.args.left c.if-rest-over.true

pub returns-then-rest-wide : goal.returns-then-rest-wide
returns-then-rest-wide c = in_wide c.args.bits c.args.rest c.args.wide c.args.reach c.args.left (omega arith) c.if-rest-wide.true

pub overflow_mul-size : goal.overflow_mul-size
overflow_mul-size c =
    let p = c.turn-size.ensures.period.few in
    let w = wide_fits c.turn-size.result c.args.wide c.args.rest (omega arith) (omega arith) in
    omega arith

pub returns-then-repeats-eq0 : goal.returns-then-repeats-eq0
returns-then-repeats-eq0 c =
    one_of_none c.turn-size.result c.min-repeats.result c.if-repeats-eq0.true
    ∙ in_rest c.args.bits c.args.rest c.args.wide c.args.reach c.args.left c.turn-size.result c.min-repeats.result (omega arith) (omega arith) c.turn-size.ensures.value c.min-repeats.ensures

pub returns : goal.returns
returns c =
    or_one_some c.turn-size.result c.min-repeats.result c.if-repeats-eq0.false
    ∙ in_rest c.args.bits c.args.rest c.args.wide c.args.reach c.args.left c.turn-size.result c.min-repeats.result (omega arith) (omega arith) c.turn-size.ensures.value c.min-repeats.ensures
