use Rattle.std.proofs.Common.{◌≡◌, ◌*◌, ◌/◌, ◌%◌, ◌^◌, FitsSigned, ap, ◌∙◌}
use Rattle.std.specs.Prelude.{unsigned_abs}
use Rattle.std.specs.Int.{w128}
use Rattle.std.proofs.lemmas.Int.{to_z-of_z}
use Rattle.ival_core.specs.Sets.{apart}
use Rattle.ival_core.proofs.Runs.{number_fits}
use Rattle.ival_core.proofs.RunShapes.{steps_to}
use Rattle.ival_arith.specs.Pieces.{cycle}
use Rattle.ival_arith.proofs.ProductCodes.{cycle_is}
use Rattle.ival_arith.proofs.products.product_cycle.Goals as goal

pub returns : goal.returns
returns c =
    let p = c.args.run in
    let y = c.args.y in
    let a : FitsSigned w128 p.low = number_fits p.low c.requires.run.first in
    let b : FitsSigned w128 p.high = number_fits p.high c.requires.run.last in
    let f : FitsSigned w128 y = c.ranges.y in
    let d : c.abs_diff.result / p.stride ≡ apart p.low p.high / p.stride = steps_to p.low p.high p.stride c.abs_diff.result (simp to_z-of_z at c.abs_diff.ensures) in
    let w = c.args.width in
    (simp to_z-of_z at c.cycle.ensures)
    ∙ ap (λ m. cycle m (unsigned_abs p.low * unsigned_abs y % m) (p.stride * unsigned_abs y % m) (c.abs_diff.result / p.stride)) c.power-m.ensures.value
    ∙ ap (cycle (2 ^ w) (unsigned_abs p.low * unsigned_abs y % 2 ^ w) (p.stride * unsigned_abs y % 2 ^ w)) d
    ∙ cycle_is w p y c.requires.low c.requires.factor
