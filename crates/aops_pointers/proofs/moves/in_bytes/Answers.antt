use Rattle.std.proofs.Common.{◌≡◌, ◌<◌, ◌^◌, pos, arith, to_z}
use Rattle.std.specs.Int.{w128}
use Rattle.std.proofs.lemmas.Int.{to_z_pos}
use Rattle.aops_pointers.proofs.Moving.{bytes_same}
use Rattle.aops_pointers.proofs.moves.in_bytes.Goals as goal

pub returns-clause-value : goal.returns-clause-value
returns-clause-value c =
    let f : c.args.size < 2 ^ 64 = c.ranges.size.fits in
    let p : to_z w128 c.args.size ≡ pos c.args.size = to_z_pos w128 c.args.size (omega arith) in
    bytes_same c.args.size c.args.counts.now c.single.result c.exact_mul.result (simp p at c.single.ensures.value) c.exact_mul.ensures.value
