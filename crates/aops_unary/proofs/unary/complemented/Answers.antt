use Rattle.aops_unary.proofs.Turning.{turned_stays, complement_holds}
use Rattle.aops_unary.proofs.Narrowing.{complements_none, complements_some, complement_only}
use Rattle.aops_unary.proofs.unary.complemented.Goals as goal

pub returns-in-None-clause-holds : goal.returns-in-None-clause-holds
returns-in-None-clause-holds c n h f = absurd (turned_stays c.args.format.signed c.args.format.width c.single.result c.typed-set.result c.single.ensures.only c.typed-set.ensures.typed c.args.format.some c.args.format.room c.in-None.ensures.leaves)

pub returns-in-Some-clause-holds : goal.returns-in-Some-clause-holds
returns-in-Some-clause-holds c n h f =
    complement_holds c.args.format.signed c.args.format.width c.single.result c.args.a.now c.typed-set.result c.in-Some.turned c.wrapped.result c.single.ensures.only c.args.format.some c.args.format.room c.typed-set.ensures.value c.in-Some.ensures.least c.wrapped.ensures.holds n h f

pub returns-in-None-clause-value : goal.returns-in-None-clause-value
returns-in-None-clause-value c =
    complements_none c.args.format.signed c.args.format.width c.single.result c.args.a.now c.typed-set.result c.empty.result c.exact_sub.result c.single.ensures.value c.typed-set.ensures.value c.exact_sub.ensures.value c.in-None.is c.empty.ensures.value

pub returns-in-None-clause-single : goal.returns-in-None-clause-single
returns-in-None-clause-single c n h f = absurd (turned_stays c.args.format.signed c.args.format.width c.single.result c.typed-set.result c.single.ensures.only c.typed-set.ensures.typed c.args.format.some c.args.format.room c.in-None.ensures.leaves)

pub returns-in-Some-clause-value : goal.returns-in-Some-clause-value
returns-in-Some-clause-value c =
    complements_some c.args.format.signed c.args.format.width c.single.result c.args.a.now c.typed-set.result c.in-Some.turned c.wrapped.result c.exact_sub.result c.single.ensures.value c.typed-set.ensures.value c.exact_sub.ensures.value c.in-Some.is c.wrapped.ensures.value

pub returns-in-Some-clause-single : goal.returns-in-Some-clause-single
returns-in-Some-clause-single c n k f =
    complement_only c.args.format.signed c.args.format.width c.single.result c.args.a.now c.typed-set.result c.in-Some.turned c.wrapped.result c.single.ensures.only c.args.format.some c.args.format.room c.typed-set.ensures.value c.in-Some.ensures.stays c.in-Some.ensures.least c.wrapped.ensures.single n k f
