use Rattle.std.proofs.Common.{sym, ◌∙◌}
use Rattle.aops_by_type.proofs.Using.{pointer_cause, difference_kinds, comparison_kinds}
use Rattle.aops_by_type.proofs.binary.on_pointers.Goals as goal

pub returns-then-is_difference-clause-cause : goal.returns-then-is_difference-clause-cause
returns-then-is_difference-clause-cause g c kind h =
    pointer_cause c.args.op c.args.size c.args.other c.args.m (g.S.Sizes.size_of c.args.sizes.now) c.args.a.now c.args.b.now c.on_difference.result.kinds kind c.requires
    (difference_kinds c.args.op c.args.size c.args.other c.args.m (g.S.Sizes.size_of c.args.sizes.now) c.args.a.now c.args.b.now c.on_difference.result.kinds (sym c.is_difference.ensures ∙ c.if-is_difference.true) c.on_difference.ensures.kind_set) h

pub returns-clause-cause : goal.returns-clause-cause
returns-clause-cause g c kind h =
    pointer_cause c.args.op c.args.size c.args.other c.args.m (g.S.Sizes.size_of c.args.sizes.now) c.args.a.now c.args.b.now c.on_comparison.result.kinds kind c.requires
    (comparison_kinds c.args.op c.args.size c.args.other c.args.m (g.S.Sizes.size_of c.args.sizes.now) c.args.a.now c.args.b.now c.on_comparison.result.kinds (sym c.is_difference.ensures ∙ c.if-is_difference.false) c.on_comparison.ensures.kind_set) h
