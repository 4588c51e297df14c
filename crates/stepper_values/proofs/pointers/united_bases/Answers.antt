use Rattle.std.proofs.Common.{◌∙◌, ap}
use Rattle.c_memory.specs.Values.{Value, Provenance}
use Rattle.stepper_values.specs.Views.{number_of, bases_of}
use Rattle.stepper_values.proofs.Cells.{bases-append}
use Rattle.stepper_values.proofs.pointers.united_bases.Goals as goal

pub returns : goal.returns
returns c =
    let with_bases : Provenance → Value = λ p. record { number = number_of c.args.number; provenance = p } in
    ap with_bases (ap bases_of c.in_ok-append.ensures ∙ bases-append c.args.value.bases c.args.other.bases)
