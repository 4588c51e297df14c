use Rattle.std.proofs.Common.{◌≡◌, ◌-◌, ◌^◌, ap, ◌∙◌}
use Rattle.std.specs.Prelude.{unsigned_abs}
use Rattle.c_base.specs.Integers.{signed_number, residue}
use Rattle.c_base.proofs.Singles.{passed, complement_is}
use Rattle.c_base.proofs.operators.complement.Goals as goal

pub returns : goal.returns
returns c =
    let s = c.args.format.signed in
    let w = c.args.format.width in
    let x : c.residue.result ≡ residue (2 ^ w) c.args.a = c.residue.ensures.value ∙ passed (residue (2 ^ w)) c.args.a c.ranges.a in
    passed (λ n. n) c.from_pattern.result (record { sfits = c.from_pattern.type_inv }) ∙ c.from_pattern.ensures ∙ ap (λ n. signed_number s w (unsigned_abs n - 1 - c.residue.result)) (passed (λ n. n) c.signed_power.result (record { sfits = c.signed_power.type_inv }) ∙ c.signed_power.ensures.value) ∙ ap (λ n. signed_number s w (2 ^ w - 1 - n)) x ∙ complement_is s w c.args.a
