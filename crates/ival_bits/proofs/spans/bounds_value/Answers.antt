use Rattle.std.proofs.Common.{◌∙◌, ap, max, FitsSigned, ℤ, rules}
use Rattle.std.specs.Int.{w128}
use Rattle.std.proofs.lemmas.Int.{to_z-of_z}
use Rattle.ival_core.specs.declared.value.Ival.{Ival}
use Rattle.ival_core.specs.Ivals.{IsBounds}
use Rattle.ival_core.proofs.Insertion.{Holds-number}
use Rattle.ival_bits.specs.Spans.{IsEnds, sized}
use Rattle.ival_bits.proofs.Sizes.{Room, room_of}
use Rattle.ival_bits.proofs.spans.bounds_value.Goals as goal

room : (c : goal.After-max) → Room c.args.format.signed c.args.format.width c.max.result c.in-Some.low c.in-Some.high c.in-Some-bounds.least c.in-Some-bounds.greatest
room c =
    let o = c.args.format in
    let h : IsBounds c.args.a.now c.in-Some.low c.in-Some.high = c.in-Some.ensures.some in
    let k : IsBounds c.args.b.now c.in-Some-bounds.least c.in-Some-bounds.greatest = c.in-Some-bounds.ensures.some in
    let e : FitsSigned w128 c.in-Some.low = search rules in
    let f : FitsSigned w128 c.in-Some.high = search rules in
    let g : FitsSigned w128 c.in-Some-bounds.least = search rules in
    let i : FitsSigned w128 c.in-Some-bounds.greatest = search rules in
    room_of o.signed o.width c.max.result c.in-Some.low c.in-Some.high c.in-Some-bounds.least c.in-Some-bounds.greatest o.room
    (c.requires.left.fits _ h.first) (c.requires.left.fits _ h.last) (c.requires.right.fits _ k.first) (c.requires.right.fits _ k.last)
    (Holds-number c.args.a.now _ h.first) (Holds-number c.args.a.now _ h.last) (Holds-number c.args.b.now _ k.first) (Holds-number c.args.b.now _ k.last)
    (c.max.ensures ∙ ap (λ n. max n c.ends_sized-2.result) (simp to_z-of_z at c.ends_sized.ensures) ∙ ap (max (max (sized c.in-Some.low) (sized c.in-Some.high))) (simp to_z-of_z at c.ends_sized-2.ensures))

pub spanned-requires-clause-small : goal.spanned-requires-clause-small
spanned-requires-clause-small c = (room c).small

pub spanned-requires-clause-low : goal.spanned-requires-clause-low
spanned-requires-clause-low c =
    let f : FitsSigned w128 c.in-Some.low = search rules in
    simp to_z-of_z (room c).first

pub spanned-requires-clause-other : goal.spanned-requires-clause-other
spanned-requires-clause-other c =
    let f : FitsSigned w128 c.in-Some-bounds.least = search rules in
    simp to_z-of_z (room c).low

ends : (v : Ival) (low high : ℤ) → IsBounds v low high → IsEnds (record { low = low; high = high })
ends v low high h = record {
  least = Holds-number v low h.first;
  greatest = Holds-number v high h.last;
  order = (h.between low h.first).1;
}

pub ends_sized-requires : goal.ends_sized-requires
ends_sized-requires c =
    let f : FitsSigned w128 c.in-Some.low = search rules in
    let g : FitsSigned w128 c.in-Some.high = search rules in
    simp to_z-of_z (ends c.args.a.now c.in-Some.low c.in-Some.high c.in-Some.ensures.some)

pub ends_sized-requires-2 : goal.ends_sized-requires-2
ends_sized-requires-2 c =
    let f : FitsSigned w128 c.in-Some-bounds.least = search rules in
    let g : FitsSigned w128 c.in-Some-bounds.greatest = search rules in
    simp to_z-of_z (ends c.args.b.now c.in-Some-bounds.least c.in-Some-bounds.greatest c.in-Some-bounds.ensures.some)

pub spanned-requires-clause-left : goal.spanned-requires-clause-left
spanned-requires-clause-left c =
    let f : FitsSigned w128 c.in-Some.low = search rules in
    let g : FitsSigned w128 c.in-Some.high = search rules in
    simp to_z-of_z (ends c.args.a.now c.in-Some.low c.in-Some.high c.in-Some.ensures.some)

pub spanned-requires-clause-right : goal.spanned-requires-clause-right
spanned-requires-clause-right c =
    let f : FitsSigned w128 c.in-Some-bounds.least = search rules in
    let g : FitsSigned w128 c.in-Some-bounds.greatest = search rules in
    simp to_z-of_z (ends c.args.b.now c.in-Some-bounds.least c.in-Some-bounds.greatest c.in-Some-bounds.ensures.some)
