use Rattle.std.proofs.Common.{◌≡◌, ap, ◌∙◌, ◌^◌}
use Rattle.std.specs.Prelude.{bit_and}
use Rattle.c_base.specs.Integers.{signed_number, residue}
use Rattle.c_base.proofs.Singles.{passed, and_is}
use Rattle.c_base.proofs.operators.and.Goals as goal

pub returns : goal.returns
returns c =
    let s = c.args.format.signed in
    let w = c.args.format.width in
    let x : c.residue.result ≡ residue (2 ^ w) c.args.a = c.residue.ensures.value ∙ passed (residue (2 ^ w)) c.args.a c.ranges.a in
    let y : c.residue-2.result ≡ residue (2 ^ w) c.args.b = c.residue-2.ensures.value ∙ passed (residue (2 ^ w)) c.args.b c.ranges.b in
    passed (λ n. n) c.from_pattern.result (record { sfits = c.from_pattern.type_inv }) ∙ c.from_pattern.ensures ∙ ap (λ n. signed_number s w (bit_and n c.residue-2.result)) x ∙ ap (λ n. signed_number s w (bit_and (residue (2 ^ w) c.args.a) n)) y ∙ and_is s w c.args.a c.args.b
