use Rattle.std.proofs.Common.{◌∙◌, sym}
use Rattle.std.specs.FinSet.{contains-from_list_nat}
use Rattle.stepper_values.proofs.value.contains.Goals as goal

pub returns : goal.returns
returns c = c.contains.ensures.value ∙ sym (contains-from_list_nat c.args.bases.now c.args.base)
