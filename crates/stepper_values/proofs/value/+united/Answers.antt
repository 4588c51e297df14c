use Rattle.std.proofs.Common.{◌∙◌, sym, ap}
use Rattle.std.specs.Prelude.{map}
use Rattle.c_memory.specs.Values as values
use Rattle.stepper_values.specs.Views.{cell_of, bases_of}
use Rattle.stepper_values.proofs.Cells.{united-empty, united-split, cells-none}
use Rattle.stepper_values.proofs.value.+united.Goals as goal

pub returns-then-is_empty : goal.returns-then-is_empty
returns-then-is_empty t c =
    let none = cells-none c.args.cells.now (sym c.is_empty.ensures ∙ c.if-is_empty.true) in
    ap bases_of c.new.ensures ∙ sym (ap (λ cells. values.united (map cell_of cells)) none ∙ united-empty)

pub returns : goal.returns
returns t c =
    ap bases_of c.in_ok-append.ensures
    ∙ united-split c.args.cells.now c.index-cells-0.result (sym c.is_empty.ensures ∙ c.if-is_empty.false) c.index-cells-0.is c.in_ok-bases.bases c.in_ok-from_slice.field-0
    c.in_ok-bases.ensures (ap bases_of c.in_ok-from_slice.ensures ∙ c.bases.ensures)
