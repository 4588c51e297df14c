use Rattle.std.proofs.Common.{inr}
use Rattle.std.proofs.lemmas.Result.{IfOk-weaker}
use Rattle.std.proofs.Common.{◌∙◌}
use Rattle.std.proofs.Common.{length}
use Rattle.avalue.proofs.Making.{fit_kept, fit_mixed, not_zero}
use Rattle.avalue.proofs.pieces.fit.Goals as goal

pub returns-then-bits-eq-POINTER_BITS : goal.returns-then-bits-eq-POINTER_BITS
returns-then-bits-eq-POINTER_BITS c =
    IfOk-weaker c.duplicate-then-bits-eq-POINTER_BITS.result _ _
    (λ v e. e ∙ fit_kept c.args.a.now c.args.bits c.addresses-addresses.result.now c.addresses-addresses.ensures.value c.addresses-addresses.ensures.offsets (inr c.if-bits-eq-POINTER_BITS.true)) c.duplicate-then-bits-eq-POINTER_BITS.ensures

pub returns : goal.returns
returns c = c.mixed.ensures ∙ fit_mixed c.args.a.now c.args.bits c.addresses-addresses.result.now c.in_ok-bases.field-0.items c.addresses-addresses.ensures.value c.addresses-addresses.ensures.offsets (not_zero (length c.addresses-addresses.result.now) c.is_empty.result c.is_empty.ensures c.if-is_empty.false) c.if-bits-eq-POINTER_BITS.false c.in_ok-bases.ensures.value
