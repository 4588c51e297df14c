use Rattle.std.proofs.Common.{◌∙◌, sym}
use Rattle.c_memory.specs.Values as values
use Rattle.stepper_values.proofs.Cells.{any-front, any-behind}
use Rattle.stepper_values.proofs.value.+is_any_dead.Goals as goal

pub returns-then-is_dead : goal.returns-then-is_dead
returns-then-is_dead t c =
    sym (any-front values.is_dead c.args.cells.now c.index-cells-0.result (sym c.is_empty.ensures ∙ c.if-is_empty.false) c.index-cells-0.is (sym c.is_dead.ensures ∙ c.if-is_dead.true))

pub returns : goal.returns
returns t c =
    c.is_any_dead.ensures
    ∙ sym (any-behind values.is_dead c.args.cells.now c.index-cells-0.result (sym c.is_empty.ensures ∙ c.if-is_empty.false) c.index-cells-0.is (sym c.is_dead.ensures ∙ c.if-is_dead.false))
