use Rattle.std.proofs.Common.{sym, ◌∙◌, ap}
use Rattle.std.specs.Option.{option_copied}
use Rattle.std.proofs.lemmas.Result.{IfOk-weaker}
use Rattle.aops_unary.proofs.Turning.{numbers_hold, numbers_undefined, numbers_cause, any_cause, possible}
use Rattle.aops_unary.proofs.Narrowing.{sole_one}
use Rattle.aops_unary.proofs.unary.abs_unary.Goals as goal

pub returns-in-None-clause-holds : goal.returns-in-None-clause-holds
returns-in-None-clause-holds c = IfOk-weaker c.on_addresses.result _ _ (λ r h. λ l x z i f t. h l x z i t) c.on_addresses.ensures.holds

pub returns-in-None-clause-kinds : goal.returns-in-None-clause-kinds
returns-in-None-clause-kinds c = IfOk-weaker c.on_addresses.result _ _ (λ r e. λ l x kind i f t. possible c.args.op c.args.k c.args.m x kind r.kinds e t) c.on_addresses.ensures.kind_set

pub returns-in-None-clause-cause : goal.returns-in-None-clause-cause
returns-in-None-clause-cause c =
    IfOk-weaker c.on_addresses.result _ _ (λ r e. λ kind h. any_cause c.args.op c.args.k c.args.m c.args.a.now kind (sym c.numbers_alone.ensures.value ∙ ap option_copied c.in-None.is)) c.on_addresses.ensures.kind_set

pub returns-in-Some-clause-holds : goal.returns-in-Some-clause-holds
returns-in-Some-clause-holds c l x z i f t =
    numbers_hold c.args.op c.args.k c.args.m l c.args.a.now c.number.result c.in-Some.numbers.now c.on_numbers-answer.result.value (sym c.numbers_alone.ensures.value ∙ ap option_copied c.in-Some.is) c.number.ensures c.on_numbers-answer.ensures.holds x z i f t

pub returns-in-Some-clause-kinds : goal.returns-in-Some-clause-kinds
returns-in-Some-clause-kinds c l x kind i f t =
    (c.on_numbers-answer.ensures.kinds kind).1 (numbers_undefined c.args.op c.args.k c.args.m l c.args.a.now c.in-Some.numbers.now (sym c.numbers_alone.ensures.value ∙ ap option_copied c.in-Some.is) x kind i f t)

pub returns-in-Some-clause-cause : goal.returns-in-Some-clause-cause
returns-in-Some-clause-cause c kind h =
    numbers_cause c.args.op c.args.k c.args.m c.args.a.now c.in-Some.numbers.now kind (sym c.numbers_alone.ensures.value ∙ ap option_copied c.in-Some.is) ((c.on_numbers-answer.ensures.kinds kind).0 h)

pub returns-in-Some-clause-sole : goal.returns-in-Some-clause-sole
returns-in-Some-clause-sole c l x s i f =
    sole_one c.args.op c.args.k c.args.m l c.args.a.now c.number.result c.in-Some.numbers.now c.on_numbers-answer.result.value c.on_numbers-answer.result.kinds (sym c.numbers_alone.ensures.value ∙ ap option_copied c.in-Some.is) c.number.ensures c.on_numbers-answer.ensures.narrow
    c.on_numbers-answer.ensures.holds c.on_numbers-answer.ensures.kinds x s i f
