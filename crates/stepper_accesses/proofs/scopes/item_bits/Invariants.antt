use Rattle.std.proofs.Common.{◌≡◌, map}
use Rattle.c_memory.specs.Values.{cells_of}
use Rattle.c_effects.specs.Images.{item_value, repeated}
use Rattle.stepper_values.specs.Views.{cell_of, layout_of}
use Rattle.stepper_accesses.proofs.scopes.item_bits.Given as goal

abbrev pub invariant-loop : goal.invariant-loop
invariant-loop l =
    map cell_of l.cells ≡ repeated l.counter (cells_of l.fn.layout.machine l.fn.item.bits (item_value (layout_of l.fn.layout) l.fn.item.number l.fn.item.base))
