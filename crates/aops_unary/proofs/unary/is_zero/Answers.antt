use Rattle.aops_unary.proofs.Turning.{not_holds, not_undefined, never}
use Rattle.aops_unary.proofs.Narrowing.{zero_truths, no_kinds_not, narrow_not}
use Rattle.aops_unary.proofs.unary.is_zero.Goals as goal

pub returns-clause-holds : goal.returns-clause-holds
returns-clause-holds c n g = not_holds c.args.k c.args.m c.args.a.now c.single.result c.related.result c.single.ensures.only c.related.ensures n g

pub returns-clause-kinds : goal.returns-clause-kinds
returns-clause-kinds c kind = never c.none.result kind _ (c.none.ensures.none kind) (not_undefined c.args.k c.args.m c.args.a.now kind)

pub returns-clause-value : goal.returns-clause-value
returns-clause-value c = zero_truths c.args.k c.args.m c.args.a.now c.single.result c.related.result c.single.ensures.value c.related.ensures

pub returns-clause-kind_set : goal.returns-clause-kind_set
returns-clause-kind_set c = no_kinds_not c.args.k c.args.m c.args.a.now c.none.result c.none.ensures.value

pub returns-clause-narrow : goal.returns-clause-narrow
returns-clause-narrow c = narrow_not c.args.k c.args.m c.args.a.now c.single.result c.related.result c.single.ensures.value c.related.ensures
