use Rattle.std.proofs.Common.{◌≡◌, refl, subst}
use Rattle.std.specs.Prelude.{Ok}
use Rattle.c_pointers.specs.Conversions.{applied_to_one}
use Rattle.std.proofs.lemmas.Result.{IfOk-weaker}
use Rattle.c_base.specs.declared.operators.UnOp.TheVariants.{Neg, Compl}
use Rattle.aops_unary.proofs.Turning.{mixed_holds, truths_hold}
use Rattle.aops_unary.proofs.unary.blended.Goals as goal

pub returns-in-Neg-clause-holds : goal.returns-in-Neg-clause-holds
returns-in-Neg-clause-holds c = IfOk-weaker c.as_mix.result _ _ (λ v e. λ l x z i t. mixed_holds Neg c.args.k c.args.m l c.args.a.now v x z (λ p. refl) e i (subst (λ o. applied_to_one o c.args.k c.args.m x ≡ Ok z) c.in-Neg.is t)) c.as_mix.ensures

pub returns-in-Not-clause-holds : goal.returns-in-Not-clause-holds
returns-in-Not-clause-holds c l x z i t = truths_hold c.args.k c.args.m l c.number.result c.truth_set.result x z c.truth_set.ensures c.number.ensures (subst (λ o. applied_to_one o c.args.k c.args.m x ≡ Ok z) c.in-Not.is t)

pub returns-in-Compl-clause-holds : goal.returns-in-Compl-clause-holds
returns-in-Compl-clause-holds c = IfOk-weaker c.as_mix-in-Compl.result _ _ (λ v e. λ l x z i t. mixed_holds Compl c.args.k c.args.m l c.args.a.now v x z (λ p. refl) e i (subst (λ o. applied_to_one o c.args.k c.args.m x ≡ Ok z) c.in-Compl.is t)) c.as_mix-in-Compl.ensures
