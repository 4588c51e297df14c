use Rattle.std.proofs.Common.{ℤ, sym, subst, ◌∙◌, ap}
use Rattle.std.specs.Option.{option_copied}
use Rattle.std.proofs.lemmas.Result.{IfOk-weaker}
use Rattle.c_base.specs.Integers.{is_signed}
use Rattle.c_base.specs.Operators.{reduced}
use Rattle.ival_core.specs.Ivals.{Holds}
use Rattle.aops.specs.Converted.{wrapped_set}
use Rattle.aops.proofs.Converting.{integers_alone, integers_word, integers_mixed, numbers_hold, word_hold, mixed_hold}
use Rattle.aops.proofs.Alone.{integers_alone_one, lost}
use Rattle.aops.proofs.convert.as_integers.Goals as goal

pub returns-in-Some-clause-value : goal.returns-in-Some-clause-value
returns-in-Some-clause-value c =
    c.number.ensures
    ∙ integers_alone c.args.format.kind c.args.format.machine c.args.a.now c.in-Some.numbers.now c.wrapped.result (sym c.numbers_alone.ensures.value ∙ ap option_copied c.in-Some.is)
    (c.wrapped.ensures.value ∙ ap (λ s. wrapped_set s c.args.format.width c.in-Some.numbers.now) c.args.format.sign ∙ ap (λ k. wrapped_set (is_signed c.args.format.kind) k c.in-Some.numbers.now) c.args.format.bits)

pub returns-in-Some-clause-holds : goal.returns-in-Some-clause-holds
returns-in-Some-clause-holds c l x h i =
    numbers_hold l c.args.format.kind c.requires.other c.args.format.machine c.args.a.now c.number.result c.in-Some.numbers.now c.wrapped.result (sym c.numbers_alone.ensures.value ∙ ap option_copied c.in-Some.is) c.number.ensures
    (subst (λ k. (n : ℤ) → Holds c.in-Some.numbers.now n → Holds c.wrapped.result (reduced (is_signed c.args.format.kind) k n)) c.args.format.bits
    (subst (λ s. (n : ℤ) → Holds c.in-Some.numbers.now n → Holds c.wrapped.result (reduced s c.args.format.width n)) c.args.format.sign c.wrapped.ensures.holds)) x i

pub returns-then-is_word-clause-value : goal.returns-then-is_word-clause-value
returns-then-is_word-clause-value c =
    IfOk-weaker c.as_pointers.result _ _
    (λ v e. e ∙ integers_word c.args.format.kind c.args.format.machine c.args.a.now (sym c.numbers_alone.ensures.value ∙ ap option_copied c.in-None.is) (sym c.is_word.ensures ∙ c.if-is_word.true)) c.as_pointers.ensures.value

pub returns-then-is_word-clause-holds : goal.returns-then-is_word-clause-holds
returns-then-is_word-clause-holds c =
    IfOk-weaker c.as_pointers.result _ _
    (λ v f. λ l x h i. word_hold l c.args.format.kind c.requires.other c.args.format.machine (sym c.is_word.ensures ∙ c.if-is_word.true) v x (f l x h i)) c.as_pointers.ensures.holds

pub returns-else-is_word-clause-value : goal.returns-else-is_word-clause-value
returns-else-is_word-clause-value c =
    IfOk-weaker c.as_mix.result _ _
    (λ v e. e ∙ integers_mixed c.args.format.kind c.args.format.machine c.args.a.now (sym c.numbers_alone.ensures.value ∙ ap option_copied c.in-None.is) (sym c.is_word.ensures ∙ c.if-is_word.false)) c.as_mix.ensures

pub returns-else-is_word-clause-holds : goal.returns-else-is_word-clause-holds
returns-else-is_word-clause-holds c =
    IfOk-weaker c.as_mix.result _ _ (λ v e. λ l x h i. mixed_hold l c.args.format.kind c.requires.other c.args.format.machine c.args.a.now v e x i) c.as_mix.ensures

pub returns-in-Some-clause-alone : goal.returns-in-Some-clause-alone
returns-in-Some-clause-alone c l s k =
    integers_alone_one l c.args.a.now c.number.result c.in-Some.numbers.now c.wrapped.result (sym c.numbers_alone.ensures.value ∙ ap option_copied c.in-Some.is) c.number.ensures
    (record { single = λ n o. (reduced c.args.format.signed c.args.format.width n, c.wrapped.ensures.single n o); none = c.wrapped.ensures.none }) s

pub returns-then-is_word-clause-alone : goal.returns-then-is_word-clause-alone
returns-then-is_word-clause-alone c = IfOk-weaker c.as_pointers.result _ _ (λ v f. λ l s k. f l s) c.as_pointers.ensures.alone

pub returns-else-is_word-clause-alone : goal.returns-else-is_word-clause-alone
returns-else-is_word-clause-alone c =
    IfOk-weaker c.as_mix.result _ _
    (λ v e. λ l s k. absurd (lost c.args.format.kind c.args.format.machine c.args.a.now (sym c.numbers_alone.ensures.value ∙ ap option_copied c.in-None.is) (sym c.is_word.ensures ∙ c.if-is_word.false) k s)) c.as_mix.ensures
