use Rattle.std.proofs.Common.{◌∙◌}
use Rattle.ival_core.proofs.Canonical.{same_ival}
use Rattle.avalue_base.specs.Numbers.{words}
use Rattle.avalue_values.proofs.Values.{words_shape}
use Rattle.aops_relations.proofs.comparisons.words.Goals as goal

pub returns : goal.returns
returns c = same_ival c.run_from.result words (c.run_from.ensures.value ∙ words_shape)
