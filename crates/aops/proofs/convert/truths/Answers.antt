use Rattle.std.proofs.Common.{◌∙◌, ap}
use Rattle.c_base.specs.declared.operators.Rel.TheVariants as rel
use Rattle.aops.specs.Numbers.{related}
use Rattle.aops.proofs.Sorts.{zero_set}
use Rattle.aops.proofs.convert.truths.Goals as goal

pub returns : goal.returns
returns c = c.related.ensures ∙ ap (related rel.Ne c.args.a.now) (zero_set c.single.result c.single.ensures.value)
