use Rattle.std.proofs.Common.{sym, ◌∙◌}
use Rattle.avalue_base.proofs.Means.{value_means}
use Rattle.avalue_values.proofs.value.AVal.included.Goals as goal

pub returns-clause-meaning : goal.returns-clause-meaning
returns-clause-meaning c h l x m = value_means l c.args.self.now c.args.o.now x (sym c.parts_included.ensures ∙ h) m
