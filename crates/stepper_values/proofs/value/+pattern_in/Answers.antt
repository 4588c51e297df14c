use Rattle.std.proofs.Common.{◌∙◌, sym, ap}
use Rattle.c_base.specs.Integers as integers
use Rattle.c_memory.specs.Values as values
use Rattle.stepper_values.specs.Views.{cell_of}
use Rattle.std.specs.Prelude.{map}
use Rattle.stepper_values.proofs.Cells.{pattern-empty, pattern-split, cells-none}
use Rattle.stepper_values.proofs.value.+pattern_in.Goals as goal

pub returns-then-is_empty-clause-value : goal.returns-then-is_empty-clause-value
returns-then-is_empty-clause-value t c =
    let none = cells-none c.args.cells.now (sym c.is_empty.ensures ∙ c.if-is_empty.true) in
    sym (ap (λ cells. integers.number_of_bits (map values.bit_of (map cell_of cells))) none ∙ pattern-empty)

pub returns-clause-value : goal.returns-clause-value
returns-clause-value t c =
    let more = c.pattern_in-more.ensures.value in
    let bit = c.bit-bit.ensures.value in
    let split = pattern-split c.args.cells.now c.index-cells-0.result (sym c.is_empty.ensures ∙ c.if-is_empty.false) c.index-cells-0.is in
    rw (more, bit) (sym split)
