use Rattle.std.proofs.Common.{◌≡◌, ◌<◌, ◌^◌, pos, arith, to_z}
use Rattle.std.specs.Int.{w128}
use Rattle.std.proofs.lemmas.Int.{to_z_pos}
use Rattle.aops_relations.proofs.Differing.{divided_same}
use Rattle.aops_relations.proofs.differences.divided.Goals as goal

pub returns : goal.returns
returns c =
    let f : c.args.size < 2 ^ 64 = c.ranges.size.fits in
    let p : to_z w128 c.args.size ≡ pos c.args.size = to_z_pos w128 c.args.size (omega arith) in
    divided_same c.args.size c.args.distances.now c.single.result c.exact_div.result (simp p at c.single.ensures.value) c.exact_div.ensures.value
