use Rattle.std.proofs.Common.{◌∙◌}
use Rattle.ival_core.proofs.Canonical.{same_ival}
use Rattle.avalue_base.specs.Numbers.{bit_numbers}
use Rattle.aops.proofs.Converting.{bit_shape}
use Rattle.aops.proofs.convert.bits.Goals as goal

pub returns : goal.returns
returns c = same_ival c.run_from.result bit_numbers (c.run_from.ensures.value ∙ bit_shape)
