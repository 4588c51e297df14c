use Rattle.std.proofs.Common.{◌≡◌, ◌∙◌, ◌++◌, arith, ap, map}
use Rattle.std.proofs.lemmas.List.{map-append}
use Rattle.c_memory.specs.Values.{cells_of}
use Rattle.c_effects.specs.Images.{item_value, repeated}
use Rattle.stepper_values.specs.Views.{cell_of, layout_of}
use Rattle.stepper_accesses.proofs.Births.{repeated_more}
use Rattle.stepper_accesses.proofs.scopes.item_bits.Goals as goal

pub loop-preserved : goal.loop-preserved
loop-preserved c =
    let bits = cells_of c.args.layout.now.machine c.args.item.now.bits (item_value (layout_of c.args.layout.now) c.args.item.now.number c.args.item.now.base) in
    ap (map cell_of) c.in_ok-add_cells.ensures ∙ map-append cell_of c.loop.cells c.as_slice.result.now ∙ ap (λ cs. cs ++ map cell_of c.as_slice.result.now) c.loop.invariant
    ∙ ap (λ cs. repeated c.loop.counter bits ++ cs) (ap (map cell_of) c.as_slice.ensures ∙ c.in_ok-element.ensures) ∙ repeated_more bits c.loop.counter

pub returns : goal.returns
returns c =
    let all : c.loop.counter ≡ c.args.item.now.count = omega arith in
    c.loop.invariant ∙ ap (λ n. repeated n (cells_of c.args.layout.now.machine c.args.item.now.bits (item_value (layout_of c.args.layout.now) c.args.item.now.number c.args.item.now.base))) all
