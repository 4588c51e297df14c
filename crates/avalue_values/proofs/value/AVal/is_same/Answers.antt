use Rattle.std.proofs.Common.{sym, ◌∙◌}
use Rattle.avalue_values.proofs.Same.{value_antisymm, not_same}
use Rattle.avalue_values.proofs.value.AVal.is_same.Goals as goal

pub returns-then-not-parts_included-clause-other : goal.returns-then-not-parts_included-clause-other
returns-then-not-parts_included-clause-other c f e = not_same c.args.self.now c.args.o.now (sym c.parts_included.ensures ∙ c.if-not-parts_included.true) e

pub returns-clause-same : goal.returns-clause-same
returns-clause-same c e =
    value_antisymm c.args.self.now c.args.o.now c.soundness.ensures c.soundness-2.ensures (sym c.parts_included.ensures ∙ c.if-not-parts_included.false) (sym c.parts_included-2.ensures ∙ e)

pub returns-clause-other : goal.returns-clause-other
returns-clause-other c f e = not_same c.args.o.now c.args.self.now (sym c.parts_included-2.ensures ∙ f) (sym e)
