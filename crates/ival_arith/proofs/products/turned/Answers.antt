use Rattle.std.proofs.Common.{cond, refl, sym, ap, ◌∙◌}
use Rattle.std.specs.Int.{w128}
use Rattle.std.proofs.lemmas.Int.{to_z-of_z}
use Rattle.ival_core.specs.declared.value.Shape.TheVariants.{Many}
use Rattle.ival_core.proofs.Runs.{number_fits}
use Rattle.ival_arith.specs.Pieces.{run_negated}
use Rattle.ival_arith.proofs.Codes.{same_run}
use Rattle.ival_arith.proofs.ProductCodes.{whole_is}
use Rattle.ival_arith.proofs.products.turned.Goals as goal

pub returns-else-negative : goal.returns-else-negative
returns-else-negative c =
    let p = c.args.run in
    c.run_from.ensures.value
    ∙ same_run _ _ _ _ p.stride p.stride (to_z-of_z w128 p.low (number_fits p.low c.requires.first)) (to_z-of_z w128 p.high (number_fits p.high c.requires.last)) refl
    ∙ whole_is p c.requires ∙ sym (ap (λ b. cond b (run_negated p) (Many p)) c.if-negative.false)
