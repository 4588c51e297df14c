use Rattle.std.proofs.Common.{◌==◌, ◌∙◌, ap, length}
use Rattle.stepper_values.proofs.Bases.{plain_is}
use Rattle.stepper_values.proofs.pointers.is_plain.Goals as goal

pub returns : goal.returns
returns c = c.is_empty.ensures ∙ ap (λ bases. length bases == 0) c.as_slice.ensures ∙ plain_is c.args.value.now.bases
