use Rattle.std.proofs.Common.{[], sym, ◌∙◌, ap}
use Rattle.avalue_base.specs.Values.{Separate}
use Rattle.std.specs.Option.{option_copied}
use Rattle.aops.proofs.Converting.{truths_alone, truths_hold, bits_hold}
use Rattle.aops.proofs.Alone.{truths_alone_one}
use Rattle.aops.proofs.Soles.{single_numbers}
use Rattle.aops.proofs.convert.as_truths.Goals as goal

pub returns-in-Some-clause-value : goal.returns-in-Some-clause-value
returns-in-Some-clause-value c = c.number.ensures ∙ truths_alone c.args.a.now c.in-Some.numbers.now c.truths.result (sym c.numbers_alone.ensures.value ∙ ap option_copied c.in-Some.is) c.truths.ensures

pub returns-in-Some-clause-holds : goal.returns-in-Some-clause-holds
returns-in-Some-clause-holds c l m x i = truths_hold l m c.args.a.now c.number.result c.in-Some.numbers.now c.truths.result (sym c.numbers_alone.ensures.value ∙ ap option_copied c.in-Some.is) c.number.ensures c.truths.ensures x i

pub returns-in-None-clause-holds : goal.returns-in-None-clause-holds
returns-in-None-clause-holds c l m x i = bits_hold l m c.number-in-None.result (c.number-in-None.ensures ∙ ap (λ n. Separate n []) c.bits.ensures) x

pub returns-in-Some-clause-alone : goal.returns-in-Some-clause-alone
returns-in-Some-clause-alone c l s =
    truths_alone_one l c.args.a.now c.number.result c.in-Some.numbers.now c.truths.result (sym c.numbers_alone.ensures.value ∙ ap option_copied c.in-Some.is) c.number.ensures c.truths.ensures s

pub returns-in-None-clause-alone : goal.returns-in-None-clause-alone
returns-in-None-clause-alone c l s = absurd (single_numbers c.args.a.now s (sym c.numbers_alone.ensures.value ∙ ap option_copied c.in-None.is))
