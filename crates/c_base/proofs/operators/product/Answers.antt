use Rattle.std.proofs.Common.{◌∙◌, ◌^◌, arith}
use Rattle.std.proofs.lemmas.Int.{ints}
use Rattle.c_base.specs.Integers.{residue}
use Rattle.c_base.proofs.Singles.{passed, product_code}
use Rattle.c_base.proofs.operators.product.Goals as goal

pub returns-else-format : goal.returns-else-format
returns-else-format c =
    let w = c.args.format.width in
    product_code c.args.kind c.args.format.signed w c.args.a c.args.b c.residue.result c.residue-else-format.result c.signed_power.result c.if-format.false
    (c.residue.ensures.value ∙ passed (residue (2 ^ w)) c.args.a c.ranges.a)
    (c.residue-else-format.ensures.value ∙ passed (residue (2 ^ w)) c.args.b c.ranges.b)
    c.signed_power.ensures.value (omega (arith, ints, c.signed_power.ensures.value)) (record { sfits = c.signed_power.type_inv })
