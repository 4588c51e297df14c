use Rattle.std.proofs.Common.{ℤ, false, sym, subst, ◌∙◌, ap}
use Rattle.std.specs.Option.{option_copied}
use Rattle.std.proofs.lemmas.Result.{IfOk-weaker}
use Rattle.c_base.specs.Operators.{reduced}
use Rattle.c_memory.specs.declared.scalar.Scalar.TheVariants.{Pointer}
use Rattle.c_pointers.specs.Conversions.{converted_to}
use Rattle.ival_core.specs.Ivals.{Holds}
use Rattle.avalue_base.specs.Meaning.{Means}
use Rattle.aops.specs.Converted.{wrapped_set}
use Rattle.aops.proofs.Converting.{pointers_mix, mix_holds, pointers_is, pointers_hold}
use Rattle.aops.proofs.Alone.{renumbered_alone, mix_single}
use Rattle.aops.proofs.convert.as_pointers.Goals as goal

pub returns-in-None-clause-value : goal.returns-in-None-clause-value
returns-in-None-clause-value c = IfOk-weaker c.duplicate.result _ _ (λ v e. e ∙ pointers_mix c.args.m c.args.a.now (sym c.numbers.ensures ∙ ap option_copied c.in-None.is)) c.duplicate.ensures

pub returns-in-None-clause-holds : goal.returns-in-None-clause-holds
returns-in-None-clause-holds c =
    IfOk-weaker c.duplicate.result _ _
    (λ v e. λ l x h i. subst (λ z. Means l z (converted_to Pointer c.args.m x)) (sym e) (mix_holds l c.args.m c.args.a.now (sym c.numbers.ensures ∙ ap option_copied c.in-None.is) x i)) c.duplicate.ensures

pub returns-in-Some-clause-value : goal.returns-in-Some-clause-value
returns-in-Some-clause-value c =
    IfOk-weaker c.renumbered.result _ _
    (λ v e. e ∙ pointers_is c.args.m c.args.a.now c.in-Some.numbers.now c.wrapped.result (sym c.numbers.ensures ∙ ap option_copied c.in-Some.is) (c.wrapped.ensures.value ∙ ap (λ k. wrapped_set false k c.in-Some.numbers.now) c.pointer_bits.ensures.value)) c.renumbered.ensures

pub returns-in-Some-clause-holds : goal.returns-in-Some-clause-holds
returns-in-Some-clause-holds c =
    IfOk-weaker c.renumbered.result _ _
    (λ v e. λ l x h i.
    subst (λ z. Means l z (converted_to Pointer c.args.m x)) (sym e)
    (pointers_hold l c.args.m h c.args.a.now c.in-Some.numbers.now c.wrapped.result (sym c.numbers.ensures ∙ ap option_copied c.in-Some.is)
    (subst (λ k. (n : ℤ) → Holds c.in-Some.numbers.now n → Holds c.wrapped.result (reduced false k n)) c.pointer_bits.ensures.value c.wrapped.ensures.holds) x i)) c.renumbered.ensures

pub returns-in-None-clause-alone : goal.returns-in-None-clause-alone
returns-in-None-clause-alone c =
    IfOk-weaker c.duplicate.result _ _ (λ v e. λ l s. absurd (mix_single c.args.a.now (sym c.numbers.ensures ∙ ap option_copied c.in-None.is) s)) c.duplicate.ensures

pub returns-in-Some-clause-alone : goal.returns-in-Some-clause-alone
returns-in-Some-clause-alone c =
    IfOk-weaker c.renumbered.result _ _
    (λ v e. λ l s.
    renumbered_alone l c.args.a.now v c.in-Some.numbers.now c.wrapped.result (sym c.numbers.ensures ∙ ap option_copied c.in-Some.is) e
    (record { single = λ n o. (reduced false c.pointer_bits.result n, c.wrapped.ensures.single n o); none = c.wrapped.ensures.none }) s) c.renumbered.ensures
