use Rattle.std.proofs.Common.{◌∙◌, sym}
use Rattle.c_memory.specs.Values as values
use Rattle.stepper_values.proofs.Cells.{any-front, any-behind}
use Rattle.stepper_values.proofs.value.+is_any_uninit.Goals as goal

pub returns-then-is_uninit : goal.returns-then-is_uninit
returns-then-is_uninit t c =
    sym (any-front values.is_uninit c.args.cells.now c.index-cells-0.result (sym c.is_empty.ensures ∙ c.if-is_empty.false) c.index-cells-0.is (sym c.is_uninit.ensures ∙ c.if-is_uninit.true))

pub returns : goal.returns
returns t c =
    c.is_any_uninit.ensures
    ∙ sym (any-behind values.is_uninit c.args.cells.now c.index-cells-0.result (sym c.is_empty.ensures ∙ c.if-is_empty.false) c.index-cells-0.is (sym c.is_uninit.ensures ∙ c.if-is_uninit.false))
