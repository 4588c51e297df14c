use Rattle.std.proofs.Common.{◌≡◌, true, sym, subst, ap, ◌∙◌}
use Rattle.c_memory.specs.declared.scalar.Scalar.TheVariants.{Integer}
use Rattle.c_pointers.specs.Conversions.{converted_to}
use Rattle.avalue_base.specs.Meaning.{Means}
use Rattle.aops.specs.Soles.{keeps_addresses}
use Rattle.aops.proofs.Alone.{bool_plain, converted_sole}
use Rattle.aops.proofs.convert.converted.Goals as goal

pub returns-then-is_bool-clause-holds : goal.returns-then-is_bool-clause-holds
returns-then-is_bool-clause-holds c l x h i =
    subst (λ t. Means l c.as_truths.result (converted_to t c.args.m x)) (sym (c.in-Integer.is ∙ ap Integer (c.is_bool.ensures.yes c.if-is_bool.true))) (c.as_truths.ensures.holds l c.args.m x i)

pub returns-then-is_bool-clause-sole : goal.returns-then-is_bool-clause-sole
returns-then-is_bool-clause-sole c l x z h s k i =
    let e = sym (c.in-Integer.is ∙ ap Integer (c.is_bool.ensures.yes c.if-is_bool.true)) in
    converted_sole l c.as_truths.result (converted_to c.args.to c.args.m x) z
    (subst (λ t. Means l c.as_truths.result (converted_to t c.args.m x)) e (c.as_truths.ensures.holds l c.args.m x i))
    (c.as_truths.ensures.alone l (bool_plain c.args.m c.args.a.now (subst (λ t. keeps_addresses t c.args.m c.args.a.now ≡ true) (sym e) k) s))
