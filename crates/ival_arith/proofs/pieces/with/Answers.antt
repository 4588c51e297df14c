use Rattle.std.proofs.Common.{ap, ◌∙◌, FitsSigned}
use Rattle.std.specs.Int.{w128}
use Rattle.std.proofs.lemmas.Int.{to_z-of_z}
use Rattle.ival_core.specs.Joined.{joined}
use Rattle.ival_arith.proofs.Codes.{joined_one}
use Rattle.ival_arith.proofs.pieces.with.Goals as goal

pub returns : goal.returns
returns c =
    let f : FitsSigned w128 c.args.n = c.ranges.n in
    c.join.ensures ∙ ap (joined c.args.set.now.shape) (simp to_z-of_z at c.single.ensures.value) ∙ joined_one c.args.set.now.shape c.args.n
