use Rattle.std.proofs.Common.{◌≡◌, ◌∙◌, ap, sym, FitsSigned, rules}
use Rattle.std.specs.Int.{w128}
use Rattle.std.proofs.lemmas.Int.{to_z-of_z}
use Rattle.ival_bits.specs.Masks.{mask_of, turned}
use Rattle.ival_bits.proofs.MaskSets.{not_some, upper_small}
use Rattle.ival_bits.proofs.masks.by_mask.Goals as goal

pub cleared-requires-clause-small : goal.cleared-requires-clause-small
cleared-requires-clause-small c =
    let o = c.args.format in
    let f : FitsSigned w128 c.args.mask = c.ranges.mask in
    let g : FitsSigned w128 c.turned.result = search rules in
    let e : c.mask_of.result ≡ mask_of c.args.mask = simp to_z-of_z at c.mask_of.ensures.value in
    let t : c.turned.result ≡ turned o.signed o.width c.args.mask = simp to_z-of_z at c.turned.ensures.value in
    let h : c.mask_of-2.result ≡ mask_of c.turned.result = simp to_z-of_z at c.mask_of-2.ensures.value in
    upper_small o.signed o.width c.in-Some-mask_of.bits c.args.mask (record { some = o.some; room = o.room }) c.requires.mask
    (sym e ∙ not_some c.mask_of.result c.in_default.not-Some) (sym (h ∙ ap mask_of t) ∙ c.in-Some-mask_of.is)
