use Rattle.std.proofs.Common.{◌∙◌}
use Rattle.ival_core.proofs.Canonical.{same_ival}
use Rattle.avalue_base.specs.Numbers.{bit_numbers}
use Rattle.avalue_parts.proofs.Rows.{bit_shape}
use Rattle.avalue_parts.proofs.bits.bit_numbers.Goals as goal

pub returns : goal.returns
returns c = same_ival c.run_from.result bit_numbers (c.run_from.ensures.value ∙ bit_shape)
