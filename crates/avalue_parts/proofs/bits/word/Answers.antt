use Rattle.std.proofs.Common.{◌≡◌, ◌<◌, ◌^◌, pos, arith, to_z}
use Rattle.std.specs.Int.{w128}
use Rattle.std.proofs.lemmas.Int.{to_z_pos}
use Rattle.avalue_parts.proofs.Rows.{word_is}
use Rattle.avalue_parts.proofs.bits.word.Goals as goal

pub returns : goal.returns
returns c =
    let h : c.args.n < 2 ^ 64 = c.ranges.n.fits in
    let p : to_z w128 c.args.n ≡ pos c.args.n = to_z_pos w128 c.args.n (omega arith) in
    word_is c.args.n c.single.result h (simp p at c.single.ensures.value)
