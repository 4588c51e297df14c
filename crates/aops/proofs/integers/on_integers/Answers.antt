use Rattle.std.proofs.Common.{sym, ◌∙◌, ap}
use Rattle.std.specs.Option.{option_copied}
use Rattle.std.proofs.lemmas.Result.{IfOk-weaker}
use Rattle.aops.proofs.Giving.{numbers_hold, blended_hold, blended_left, blended_right, kinds_left, kinds_right, value_numbers, kinds_numbers, any_cause_left, any_cause_right, cause_numbers, undefined_numbers, undefined_any}
use Rattle.aops.proofs.Narrow.{narrow_value, any_narrow_left, any_narrow_right}
use Rattle.aops.proofs.Soles.{single_numbers, sole_numbers}
use Rattle.aops.proofs.integers.on_integers.Goals as goal

pub returns-in-None-clause-value : goal.returns-in-None-clause-value
returns-in-None-clause-value c =
    IfOk-weaker c.on_addresses.result _ _ (λ r e. e ∙ blended_left c.args.op c.args.k c.args.m c.args.a.now c.args.b.now (sym c.numbers_alone.ensures.value ∙ ap option_copied c.in-None.is)) c.on_addresses.ensures.value

pub returns-in-None-clause-kind_set : goal.returns-in-None-clause-kind_set
returns-in-None-clause-kind_set c =
    IfOk-weaker c.on_addresses.result _ _ (λ r e. e ∙ kinds_left c.args.op c.args.k c.args.m c.args.a.now c.args.b.now (sym c.numbers_alone.ensures.value ∙ ap option_copied c.in-None.is)) c.on_addresses.ensures.kind_set

pub returns-in-None-clause-holds : goal.returns-in-None-clause-holds
returns-in-None-clause-holds c =
    IfOk-weaker c.on_addresses.result _ _ (λ r e. λ l x y z o t. blended_hold c.args.op c.args.k c.args.m l c.args.a.now c.args.b.now r.value e x y z o t) c.on_addresses.ensures.value

pub returns-in-None-clause-kinds : goal.returns-in-None-clause-kinds
returns-in-None-clause-kinds c =
    IfOk-weaker c.on_addresses.result _ _ (λ r e. λ l x y kind o t. undefined_any c.args.op c.args.k c.args.m l c.args.a.now c.args.b.now r.kinds e x y kind o t) c.on_addresses.ensures.kind_set

pub returns-in-None-clause-cause : goal.returns-in-None-clause-cause
returns-in-None-clause-cause c =
    IfOk-weaker c.on_addresses.result _ _ (λ r e. λ kind h. any_cause_left c.args.op c.args.k c.args.m c.args.a.now c.args.b.now kind (sym c.numbers_alone.ensures.value ∙ ap option_copied c.in-None.is)) c.on_addresses.ensures.kind_set

pub returns-in-None-numbers_alone-clause-value : goal.returns-in-None-numbers_alone-clause-value
returns-in-None-numbers_alone-clause-value c =
    IfOk-weaker c.on_addresses-in-None-numbers_alone.result _ _
    (λ r e. e ∙ blended_right c.args.op c.args.k c.args.m c.args.a.now c.args.b.now c.in-Some.left.now (sym c.numbers_alone.ensures.value ∙ ap option_copied c.in-Some.is) (sym c.numbers_alone-in-Some.ensures.value ∙ ap option_copied c.in-None-numbers_alone.is)) c.on_addresses-in-None-numbers_alone.ensures.value

pub returns-in-None-numbers_alone-clause-kind_set : goal.returns-in-None-numbers_alone-clause-kind_set
returns-in-None-numbers_alone-clause-kind_set c =
    IfOk-weaker c.on_addresses-in-None-numbers_alone.result _ _
    (λ r e. e ∙ kinds_right c.args.op c.args.k c.args.m c.args.a.now c.args.b.now c.in-Some.left.now (sym c.numbers_alone.ensures.value ∙ ap option_copied c.in-Some.is) (sym c.numbers_alone-in-Some.ensures.value ∙ ap option_copied c.in-None-numbers_alone.is)) c.on_addresses-in-None-numbers_alone.ensures.kind_set

pub returns-in-None-numbers_alone-clause-holds : goal.returns-in-None-numbers_alone-clause-holds
returns-in-None-numbers_alone-clause-holds c =
    IfOk-weaker c.on_addresses-in-None-numbers_alone.result _ _ (λ r e. λ l x y z o t. blended_hold c.args.op c.args.k c.args.m l c.args.a.now c.args.b.now r.value e x y z o t) c.on_addresses-in-None-numbers_alone.ensures.value

pub returns-in-None-numbers_alone-clause-kinds : goal.returns-in-None-numbers_alone-clause-kinds
returns-in-None-numbers_alone-clause-kinds c =
    IfOk-weaker c.on_addresses-in-None-numbers_alone.result _ _ (λ r e. λ l x y kind o t. undefined_any c.args.op c.args.k c.args.m l c.args.a.now c.args.b.now r.kinds e x y kind o t) c.on_addresses-in-None-numbers_alone.ensures.kind_set

pub returns-in-None-numbers_alone-clause-cause : goal.returns-in-None-numbers_alone-clause-cause
returns-in-None-numbers_alone-clause-cause c =
    IfOk-weaker c.on_addresses-in-None-numbers_alone.result _ _
    (λ r e. λ kind h. any_cause_right c.args.op c.args.k c.args.m c.args.a.now c.args.b.now kind c.in-Some.left.now (sym c.numbers_alone.ensures.value ∙ ap option_copied c.in-Some.is) (sym c.numbers_alone-in-Some.ensures.value ∙ ap option_copied c.in-None-numbers_alone.is))
    c.on_addresses-in-None-numbers_alone.ensures.kind_set

pub returns-in-Some-numbers_alone-clause-value : goal.returns-in-Some-numbers_alone-clause-value
returns-in-Some-numbers_alone-clause-value c =
    c.number.ensures ∙ value_numbers c.args.op c.args.k c.args.m c.args.a.now c.args.b.now c.in-Some.left.now c.in-Some-numbers_alone.right.now c.on_numbers-answer.result.value
    (sym c.numbers_alone.ensures.value ∙ ap option_copied c.in-Some.is) (sym c.numbers_alone-in-Some.ensures.value ∙ ap option_copied c.in-Some-numbers_alone.is) c.on_numbers-answer.ensures.value

pub returns-in-Some-numbers_alone-clause-kind_set : goal.returns-in-Some-numbers_alone-clause-kind_set
returns-in-Some-numbers_alone-clause-kind_set c =
    kinds_numbers c.args.op c.args.k c.args.m c.args.a.now c.args.b.now c.in-Some.left.now c.in-Some-numbers_alone.right.now c.on_numbers-answer.result.kinds
    (sym c.numbers_alone.ensures.value ∙ ap option_copied c.in-Some.is) (sym c.numbers_alone-in-Some.ensures.value ∙ ap option_copied c.in-Some-numbers_alone.is) c.on_numbers-answer.ensures.kind_set

pub returns-in-Some-numbers_alone-clause-holds : goal.returns-in-Some-numbers_alone-clause-holds
returns-in-Some-numbers_alone-clause-holds c l x y z o t =
    numbers_hold c.args.op c.args.k c.args.m l c.args.a.now c.args.b.now c.number.result c.in-Some.left.now c.in-Some-numbers_alone.right.now c.on_numbers-answer.result.value
    (sym c.numbers_alone.ensures.value ∙ ap option_copied c.in-Some.is) (sym c.numbers_alone-in-Some.ensures.value ∙ ap option_copied c.in-Some-numbers_alone.is) c.number.ensures c.on_numbers-answer.ensures.holds x y z o t

pub returns-in-Some-numbers_alone-clause-kinds : goal.returns-in-Some-numbers_alone-clause-kinds
returns-in-Some-numbers_alone-clause-kinds c l x y kind o t =
    (c.on_numbers-answer.ensures.kinds kind).1
    (undefined_numbers c.args.op c.args.k c.args.m l c.args.a.now c.args.b.now c.in-Some.left.now c.in-Some-numbers_alone.right.now
    (sym c.numbers_alone.ensures.value ∙ ap option_copied c.in-Some.is) (sym c.numbers_alone-in-Some.ensures.value ∙ ap option_copied c.in-Some-numbers_alone.is) x y kind o t)

pub returns-in-Some-numbers_alone-clause-cause : goal.returns-in-Some-numbers_alone-clause-cause
returns-in-Some-numbers_alone-clause-cause c kind h =
    cause_numbers c.args.op c.args.k c.args.m c.args.a.now c.args.b.now kind c.in-Some.left.now c.in-Some-numbers_alone.right.now
    (sym c.numbers_alone.ensures.value ∙ ap option_copied c.in-Some.is) (sym c.numbers_alone-in-Some.ensures.value ∙ ap option_copied c.in-Some-numbers_alone.is) ((c.on_numbers-answer.ensures.kinds kind).0 h)

pub returns-in-None-clause-narrow : goal.returns-in-None-clause-narrow
returns-in-None-clause-narrow c =
    IfOk-weaker c.on_addresses.result _ _ (λ r e. any_narrow_left c.args.op c.args.k c.args.m c.args.a.now c.args.b.now r.value (sym c.numbers_alone.ensures.value ∙ ap option_copied c.in-None.is)) c.on_addresses.ensures.value

pub returns-in-None-clause-sole : goal.returns-in-None-clause-sole
returns-in-None-clause-sole c =
    IfOk-weaker c.on_addresses.result _ _ (λ r e. λ l x y s t o. absurd (single_numbers c.args.a.now s (sym c.numbers_alone.ensures.value ∙ ap option_copied c.in-None.is))) c.on_addresses.ensures.value

pub returns-in-None-numbers_alone-clause-narrow : goal.returns-in-None-numbers_alone-clause-narrow
returns-in-None-numbers_alone-clause-narrow c =
    IfOk-weaker c.on_addresses-in-None-numbers_alone.result _ _
    (λ r e. any_narrow_right c.args.op c.args.k c.args.m c.args.a.now c.args.b.now r.value c.in-Some.left.now (sym c.numbers_alone.ensures.value ∙ ap option_copied c.in-Some.is) (sym c.numbers_alone-in-Some.ensures.value ∙ ap option_copied c.in-None-numbers_alone.is))
    c.on_addresses-in-None-numbers_alone.ensures.value

pub returns-in-None-numbers_alone-clause-sole : goal.returns-in-None-numbers_alone-clause-sole
returns-in-None-numbers_alone-clause-sole c =
    IfOk-weaker c.on_addresses-in-None-numbers_alone.result _ _
    (λ r e. λ l x y s t o. absurd (single_numbers c.args.b.now t (sym c.numbers_alone-in-Some.ensures.value ∙ ap option_copied c.in-None-numbers_alone.is))) c.on_addresses-in-None-numbers_alone.ensures.value

pub returns-in-Some-numbers_alone-clause-narrow : goal.returns-in-Some-numbers_alone-clause-narrow
returns-in-Some-numbers_alone-clause-narrow c =
    narrow_value c.args.op c.args.k c.args.m c.args.a.now c.args.b.now c.number.result c.in-Some.left.now c.in-Some-numbers_alone.right.now c.on_numbers-answer.result.value
    (sym c.numbers_alone.ensures.value ∙ ap option_copied c.in-Some.is) (sym c.numbers_alone-in-Some.ensures.value ∙ ap option_copied c.in-Some-numbers_alone.is) c.number.ensures c.on_numbers-answer.ensures.narrow

pub returns-in-Some-numbers_alone-clause-sole : goal.returns-in-Some-numbers_alone-clause-sole
returns-in-Some-numbers_alone-clause-sole c l x y s t o =
    sole_numbers c.args.op c.args.k c.args.m l c.args.a.now c.args.b.now c.number.result c.in-Some.left.now c.in-Some-numbers_alone.right.now c.on_numbers-answer.result.value c.on_numbers-answer.result.kinds
    (sym c.numbers_alone.ensures.value ∙ ap option_copied c.in-Some.is) (sym c.numbers_alone-in-Some.ensures.value ∙ ap option_copied c.in-Some-numbers_alone.is) c.number.ensures c.on_numbers-answer.ensures.narrow
    c.on_numbers-answer.ensures.holds c.on_numbers-answer.ensures.kinds x y s t o
