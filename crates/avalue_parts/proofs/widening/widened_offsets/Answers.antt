use Rattle.std.proofs.Common.{◌≡◌, ◌<◌, ◌^◌, pos, inl, inr, arith, to_z}
use Rattle.std.specs.Int.{w128}
use Rattle.std.proofs.lemmas.Int.{to_z_pos}
use Rattle.avalue_parts.proofs.Marks.{offsets_far, offsets_near}
use Rattle.avalue_parts.proofs.widening.widened_offsets.Goals as goal

pub returns-then-size-eq0 : goal.returns-then-size-eq0
returns-then-size-eq0 c = offsets_far c.args.marks.now c.args.size c.args.a.now c.args.b.now c.widened.result (inl c.if-size-eq0.true) c.widened.ensures

pub returns-then-size : goal.returns-then-size
returns-then-size c = offsets_far c.args.marks.now c.args.size c.args.a.now c.args.b.now c.widened-then-size.result (inr c.if-size.true) c.widened-then-size.ensures

pub returns : goal.returns
returns c =
    let f : c.args.size < 2 ^ 64 = c.ranges.size.fits in
    let p : to_z w128 c.args.size ≡ pos c.args.size = to_z_pos w128 c.args.size (omega arith) in
    let z = c.if-size-eq0.false in
    let u = c.if-size.false in
    offsets_near c.args.marks.now c.args.size c.args.a.now c.args.b.now c.widened-2.result (omega arith) (omega arith) (simp p at c.widened-2.ensures)
