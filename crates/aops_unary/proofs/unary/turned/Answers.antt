use Rattle.aops_unary.proofs.Turning.{turned_gives, turned_format, compl_undefined, never}
use Rattle.aops_unary.proofs.Narrowing.{turned_set, no_kinds_turned, narrow_turned}
use Rattle.aops_unary.proofs.unary.turned.Goals as goal

pub returns-clause-holds : goal.returns-clause-holds
returns-clause-holds c n g =
    turned_gives c.args.k c.args.m c.args.a.now c.complemented.result
    (turned_format c.args.k c.args.m c.args.a.now c.complemented.result c.format_of.result.signed c.format_of.result.width c.format_of.result.kind c.format_of.result.machine c.format_of.ensures.kind c.format_of.ensures.machine c.format_of.result.sign c.format_of.result.bits c.complemented.ensures.holds) n g

pub returns-clause-kinds : goal.returns-clause-kinds
returns-clause-kinds c kind = never c.none.result kind _ (c.none.ensures.none kind) (compl_undefined c.args.k c.args.m c.args.a.now kind)

pub returns-clause-value : goal.returns-clause-value
returns-clause-value c =
    turned_set c.args.k c.args.m c.args.a.now c.complemented.result c.format_of.result.signed c.format_of.result.width c.format_of.result.kind c.format_of.result.machine c.format_of.ensures.kind c.format_of.ensures.machine c.format_of.result.sign c.format_of.result.bits c.complemented.ensures.value

pub returns-clause-kind_set : goal.returns-clause-kind_set
returns-clause-kind_set c = no_kinds_turned c.args.k c.args.m c.args.a.now c.none.result c.none.ensures.value

pub returns-clause-narrow : goal.returns-clause-narrow
returns-clause-narrow c =
    narrow_turned c.args.k c.args.m c.args.a.now c.complemented.result c.format_of.result.signed c.format_of.result.width c.format_of.result.kind c.format_of.result.machine c.format_of.ensures.kind c.format_of.ensures.machine c.format_of.result.sign c.format_of.result.bits c.complemented.ensures.single
