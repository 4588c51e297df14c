use Rattle.std.proofs.Common.{◌≡◌, ap, ◌∙◌, ◌^◌}
use Rattle.std.specs.Prelude.{bit_or}
use Rattle.std.proofs.lemmas.Nat.{or_lt}
use Rattle.c_base.specs.Integers.{signed_number, residue}
use Rattle.c_base.proofs.Singles.{passed, or_is}
use Rattle.c_base.proofs.operators.or.Goals as goal

pub returns : goal.returns
returns c =
    let s = c.args.format.signed in
    let w = c.args.format.width in
    let x : c.residue.result ≡ residue (2 ^ w) c.args.a = c.residue.ensures.value ∙ passed (residue (2 ^ w)) c.args.a c.ranges.a in
    let y : c.residue-2.result ≡ residue (2 ^ w) c.args.b = c.residue-2.ensures.value ∙ passed (residue (2 ^ w)) c.args.b c.ranges.b in
    passed (λ n. n) c.from_pattern.result (record { sfits = c.from_pattern.type_inv }) ∙ c.from_pattern.ensures ∙ ap (λ n. signed_number s w (bit_or n c.residue-2.result)) x ∙ ap (λ n. signed_number s w (bit_or (residue (2 ^ w) c.args.a) n)) y ∙ or_is s w c.args.a c.args.b

pub from_pattern-requires : goal.from_pattern-requires
from_pattern-requires c = or_lt c.args.format.width c.residue.result c.residue-2.result c.residue.ensures.below c.residue-2.ensures.below
