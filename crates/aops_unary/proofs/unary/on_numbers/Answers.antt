use Rattle.std.proofs.Common.{◌∙◌, ap, sym, subst}
use Rattle.std.specs.Prelude.{Ok, Err}
use Rattle.aops_unary.specs.Ones.{GivesUnary}
use Rattle.aops_unary.proofs.Turning.{negated_gives}
use Rattle.aops_unary.specs.Ones.{one_set, one_kinds, IsNarrowOne}
use Rattle.aops_unary.proofs.Narrowing.{negated_set, negated_kinds, narrow_negated}
use Rattle.aops_unary.proofs.unary.on_numbers.Goals as goal

pub returns-in-Neg-clause-holds : goal.returns-in-Neg-clause-holds
returns-in-Neg-clause-holds c n g = c.negate.ensures.holds n ((negated_gives c.args.k c.args.m c.args.a.now (Ok n)).0 (subst (λ o. GivesUnary o c.args.k c.args.m c.args.a.now (Ok n)) c.in-Neg.is g))

pub returns-in-Neg-clause-kinds : goal.returns-in-Neg-clause-kinds
returns-in-Neg-clause-kinds c kind = (
  (λ h. subst (λ o. GivesUnary o c.args.k c.args.m c.args.a.now (Err kind)) (sym c.in-Neg.is) ((negated_gives c.args.k c.args.m c.args.a.now (Err kind)).1 ((c.negate.ensures.kinds kind).0 h))),
  (λ g. (c.negate.ensures.kinds kind).1 ((negated_gives c.args.k c.args.m c.args.a.now (Err kind)).0 (subst (λ o. GivesUnary o c.args.k c.args.m c.args.a.now (Err kind)) c.in-Neg.is g))),
)

pub returns-in-Neg-clause-value : goal.returns-in-Neg-clause-value
returns-in-Neg-clause-value c = negated_set c.args.k c.args.m c.args.a.now c.negate.result.value c.negate.ensures.value ∙ ap (λ o. one_set o c.args.k c.args.m c.args.a.now) (sym c.in-Neg.is)

pub returns-in-Neg-clause-kind_set : goal.returns-in-Neg-clause-kind_set
returns-in-Neg-clause-kind_set c = negated_kinds c.args.k c.args.m c.args.a.now c.negate.result.kinds c.negate.ensures.kind_set ∙ ap (λ o. one_kinds o c.args.k c.args.m c.args.a.now) (sym c.in-Neg.is)

pub returns-in-Neg-clause-narrow : goal.returns-in-Neg-clause-narrow
returns-in-Neg-clause-narrow c =
    subst (λ o. IsNarrowOne o c.args.k c.args.m c.args.a.now c.negate.result.value) (sym c.in-Neg.is) (narrow_negated c.args.k c.args.m c.args.a.now c.negate.result.value c.negate.ensures.exact c.negate.ensures.least)
