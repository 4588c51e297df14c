use Rattle.std.proofs.Common.{refl, sym, subst}
use Rattle.c_base.specs.declared.kind.Kind.TheVariants.{DifferingBlocks}
use Rattle.c_pointers.specs.Pointers.{difference}
use Rattle.avalue_base.specs.Meaning.{Means}
use Rattle.aops_by_type.proofs.Typing.{unsure, difference_kind}
use Rattle.aops_by_type.proofs.Using.{verdict_sole, only_differing}
use Rattle.aops_by_type.proofs.binary.on_difference.Goals as goal

pub returns-clause-holds : goal.returns-clause-holds
returns-clause-holds g c l x y z o h = subst (λ v. Means l v z) (sym c.computed.ensures.value) (c.differed.ensures.holds l x y z o h)

pub returns-clause-kinds : goal.returns-clause-kinds
returns-clause-kinds g c l x y kind o h =
    unsure c.differed.result DifferingBlocks kind c.computed.result.kinds c.computed.ensures.kind_set (difference_kind l c.args.size x y kind h) (λ s. c.differed.ensures.sure s l x y kind o h) refl

pub returns-clause-sole : goal.returns-clause-sole
returns-clause-sole g c l x y z s o =
    verdict_sole l (difference l c.args.size x y) c.differed.result DifferingBlocks c.computed.result.value c.computed.result.kinds c.computed.ensures.value c.computed.ensures.kind_set (λ k h. difference_kind l c.args.size x y k h) only_differing refl
    (c.differed.ensures.sole l x y z s.left s.right s.left_near s.right_near o)
