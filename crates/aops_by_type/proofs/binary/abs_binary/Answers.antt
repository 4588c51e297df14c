use Rattle.std.proofs.Common.{sym, subst}
use Rattle.std.proofs.lemmas.Result.{IfOk-weaker}
use Rattle.std.specs.Prelude.{Ok}
use Rattle.avalue_base.specs.Meaning.{Means}
use Rattle.aops.specs.Soles.{IsSole}
use Rattle.aops_pointers.specs.Moves.{moved_by}
use Rattle.aops_by_type.proofs.Typing.{counted}
use Rattle.aops_by_type.specs.Uses.{IsMoved}
use Rattle.aops_by_type.proofs.Using.{counted_sole}
use Rattle.aops_by_type.proofs.binary.abs_binary.Goals as goal

pub returns-in-Integer-right-2-clause-holds : goal.returns-in-Integer-right-2-clause-holds
returns-in-Integer-right-2-clause-holds g c =
    IfOk-weaker c.on_count-in-Integer-right-2.result _ _
    (λ r f. λ l x y z o h.
    counted c.args.op c.args.left c.args.right c.in-Pointer.size c.in-Integer-right-2.field-0 c.args.m (g.S.Sizes.size_of c.args.sizes.now) l c.args.a.now c.args.b.now r.value x y z c.in-Pointer.is c.in-Integer-right-2.is o h
    (λ e m n. subst (λ t. Means l r.value (moved_by t c.args.m c.in-Pointer.size x y)) c.is_difference.ensures (f l x y e m n))) c.on_count-in-Integer-right-2.ensures.holds

pub returns-in-Integer-right-2-clause-sole : goal.returns-in-Integer-right-2-clause-sole
returns-in-Integer-right-2-clause-sole g c =
    IfOk-weaker c.on_count-in-Integer-right-2.result _ _
    (λ r f. λ l x y u o.
    counted_sole c.args.op c.args.left c.args.right c.in-Pointer.size c.in-Integer-right-2.field-0 c.args.m (g.S.Sizes.size_of c.args.sizes.now) l c.args.a.now c.args.b.now r.value r.kinds x y c.in-Pointer.is c.in-Integer-right-2.is u o
    (λ e q m n.
    subst (λ t. IsSole l (Ok (moved_by t c.args.m c.in-Pointer.size x y)) r.value r.kinds) c.is_difference.ensures
    (f l x y e (subst (λ t. IsMoved t c.in-Pointer.size c.args.a.now c.args.b.now y) (sym c.is_difference.ensures) q) m n))) c.on_count-in-Integer-right-2.ensures.sole
