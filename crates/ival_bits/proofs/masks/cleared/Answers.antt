use Rattle.std.proofs.Common.{◌≡◌, ◌^◌, ◌∙◌, ap, pos, subst, sym, arith}
use Rattle.std.specs.Prelude.{◌*ℤ◌}
use Rattle.ival_core.specs.Sets.{Has, IsNumber}
use Rattle.ival_arith.specs.Floors.{floored}
use Rattle.ival_bits.proofs.MaskSets.{cleared_number}
use Rattle.ival_bits.proofs.masks.cleared.Goals as goal

pub changed-requires-clause-numbers : goal.changed-requires-clause-numbers
changed-requires-clause-numbers c = λ n i.
    let o = c.args.format in
    let s = c.args.set.now in
    let e : c.floored-high.result.shape ≡ floored (2 ^ c.args.bits) s.shape = c.floored-high.ensures ∙ ap (λ d. floored d s.shape) c.power.ensures.value in
    subst (λ m. IsNumber (n *ℤ pos m)) (sym c.power-2.ensures.value)
    (cleared_number o.signed o.width c.args.bits s.shape (record { some = o.some; room = o.room }) (omega (arith, c.requires.small)) (record { valid = s.valid; typed = record { fits = c.requires.typed.fits } }) n (subst (λ u. Has u n) e i))
