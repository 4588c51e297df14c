use Rattle.std.proofs.Common.{◌≡◌, ◌<◌, ◌^◌, pos, ap, ◌∙◌, arith, to_z}
use Rattle.std.specs.Int.{w128}
use Rattle.std.proofs.lemmas.Int.{to_z_pos}
use Rattle.avalue_base.specs.Numbers.{has_residue}
use Rattle.avalue_parts.proofs.Rows.{rest_is}
use Rattle.avalue_parts.proofs.bits.has_residue.Goals as goal

pub returns : goal.returns
returns c =
    let h : c.args.rest < 2 ^ 64 = c.ranges.rest.fits in
    let s = c.power.ensures.small in
    let p : to_z w128 c.args.rest ≡ pos c.args.rest = to_z_pos w128 c.args.rest (omega arith) in
    let q : to_z w128 c.power.result ≡ pos c.power.result = to_z_pos w128 c.power.result (omega arith) in
    rest_is c.args.numbers.now c.range-all.result c.meet-common.result c.power.result c.args.rest c.is_none.result (simp (p, q) at c.range-all.ensures.numbers) c.meet-common.ensures c.is_none.ensures
    ∙ ap (λ m. has_residue c.args.numbers.now.shape m c.args.rest) c.power.ensures.value
