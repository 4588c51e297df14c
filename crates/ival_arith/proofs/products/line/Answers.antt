use Rattle.std.proofs.Common.{◌-◌, FitsSigned, ap, ◌∙◌}
use Rattle.std.specs.Int.{w128}
use Rattle.std.proofs.lemmas.Int.{to_z-of_z}
use Rattle.ival_arith.specs.Values.{product_line}
use Rattle.ival_arith.proofs.ProductCodes.{line_signed, line_unsigned}
use Rattle.ival_arith.proofs.products.line.Goals as goal

pub returns-then-format : goal.returns-then-format
returns-then-format c =
    let o = c.args.format in
    let y : FitsSigned w128 c.args.y = c.ranges.y in
    line_signed o.signed o.width c.args.run c.args.y c.product_line.result.shape c.if-format.true
    ((simp to_z-of_z at c.product_line.ensures) ∙ ap (λ k. product_line k (k - 1) c.args.run c.args.y) c.power-half.ensures.value)

pub returns-else-format : goal.returns-else-format
returns-else-format c =
    let o = c.args.format in
    let y : FitsSigned w128 c.args.y = c.ranges.y in
    line_unsigned o.signed o.width c.args.run c.args.y c.product_cycle.result.shape c.if-format.false (simp to_z-of_z at c.product_cycle.ensures)
