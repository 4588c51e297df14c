use Rattle.std.proofs.Common.{◌∙◌, sym, ap, cond}
use Rattle.std.specs.FinSet.{union}
use Rattle.c_memory.specs.Values.{nowhere}
use Rattle.stepper_values.specs.Views.{bases_of}
use Rattle.stepper_values.proofs.Cells.{bases-append}
use Rattle.stepper_values.proofs.operators.bases_after.Goals as goal

pub returns : goal.returns
returns c =
    let both = union (bases_of c.args.a) (bases_of c.args.b) in
    ap bases_of c.in_ok-append.ensures ∙ bases-append c.args.a c.args.b
    ∙ ap (λ t. cond t nowhere both) (sym c.if-is_comparison.false ∙ c.is_comparison.ensures)
