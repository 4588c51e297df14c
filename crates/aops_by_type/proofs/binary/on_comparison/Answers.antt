use Rattle.std.proofs.Common.{◌≡◌, refl, sym, subst, ◌∙◌}
use Rattle.std.specs.Prelude.{Ok, Err}
use Rattle.c_base.specs.declared.kind.Kind.TheVariants.{PtrComparison}
use Rattle.c_pointers.specs.Pointers.{comparison}
use Rattle.avalue_base.specs.Meaning.{Means}
use Rattle.aops_relations.specs.Comparisons.{op_of}
use Rattle.aops_by_type.proofs.Typing.{unsure, comparison_kind, same_op, some_rel}
use Rattle.aops.specs.Soles.{IsSole}
use Rattle.aops_by_type.proofs.Using.{verdict_sole, only_comparison}
use Rattle.aops_by_type.proofs.binary.on_comparison.Goals as goal

pub returns-in-Some-clause-holds : goal.returns-in-Some-clause-holds
returns-in-Some-clause-holds g c l x y z o h =
    subst (λ v. Means l v z) (sym c.computed.ensures.value)
    (c.compared.ensures.holds l x y z o (subst (λ p. comparison p l x y ≡ Ok z) (sym (same_op c.args.op c.in-Some.rel (sym c.rel_of.ensures ∙ c.in-Some.is))) h))

pub returns-in-Some-clause-kinds : goal.returns-in-Some-clause-kinds
returns-in-Some-clause-kinds g c l x y kind o h =
    unsure c.compared.result PtrComparison kind c.computed.result.kinds c.computed.ensures.kind_set (comparison_kind c.args.op l x y kind h)
    (λ s. c.compared.ensures.sure s l x y kind o (subst (λ p. comparison p l x y ≡ Err kind) (sym (same_op c.args.op c.in-Some.rel (sym c.rel_of.ensures ∙ c.in-Some.is))) h)) refl

pub returns-in-None-clause-value : goal.returns-in-None-clause-value
returns-in-None-clause-value g c = absurd (some_rel c.args.op c.requires (sym c.rel_of.ensures ∙ c.in-None.is))

pub returns-in-None-clause-kind_set : goal.returns-in-None-clause-kind_set
returns-in-None-clause-kind_set g c = absurd (some_rel c.args.op c.requires (sym c.rel_of.ensures ∙ c.in-None.is))

pub returns-in-None-clause-holds : goal.returns-in-None-clause-holds
returns-in-None-clause-holds g c = absurd (some_rel c.args.op c.requires (sym c.rel_of.ensures ∙ c.in-None.is))

pub returns-in-None-clause-kinds : goal.returns-in-None-clause-kinds
returns-in-None-clause-kinds g c = absurd (some_rel c.args.op c.requires (sym c.rel_of.ensures ∙ c.in-None.is))

pub returns-in-Some-clause-sole : goal.returns-in-Some-clause-sole
returns-in-Some-clause-sole g c l x y s o =
    let e = same_op c.args.op c.in-Some.rel (sym c.rel_of.ensures ∙ c.in-Some.is) in
    subst (λ p. IsSole l (comparison p l x y) c.computed.result.value c.computed.result.kinds) e
    (verdict_sole l (comparison (op_of c.in-Some.rel) l x y) c.compared.result PtrComparison c.computed.result.value c.computed.result.kinds c.computed.ensures.value c.computed.ensures.kind_set (λ k h. comparison_kind (op_of c.in-Some.rel) l x y k h) only_comparison refl
    (c.compared.ensures.sole l x y s.left s.right s.left_near s.right_near o))

pub returns-in-None-clause-sole : goal.returns-in-None-clause-sole
returns-in-None-clause-sole g c = absurd (some_rel c.args.op c.requires (sym c.rel_of.ensures ∙ c.in-None.is))
