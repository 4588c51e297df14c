use Rattle.std.proofs.Common.{◌≡◌, ◌*◌, ◌∙◌, ap, subst, List, map, take, IfOk}
use Rattle.c_memory.specs.Values as values
use Rattle.stepper_values.specs.Views.{cell_of, value_result_of}
use Rattle.stepper_values.proofs.Cells.{map_take}
use Rattle.stepper_values.proofs.value.part_value.Goals as goal

pub returns : goal.returns
returns c =
    let P : List values.Cell → Type 0 = λ cells. IfOk c.value_in.result (λ value. value_result_of value ≡ values.value_in c.args.machine c.args.scalar cells) in
    let cells = map cell_of c.args.cells.now in
    subst P
    (ap (map cell_of) c.front.ensures.value ∙ map_take cell_of (8 * c.size_of_scalar.result) c.args.cells.now
    ∙ ap (λ n. take (8 * n) cells) c.size_of_scalar.ensures.value) c.value_in.ensures
