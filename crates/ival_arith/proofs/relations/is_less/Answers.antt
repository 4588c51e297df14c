use Rattle.std.proofs.Common.{FitsSigned, rules}
use Rattle.std.specs.Int.{w128}
use Rattle.std.proofs.lemmas.Int.{to_z-of_z}
use Rattle.ival_core.specs.Ivals.{IsBounds}
use Rattle.ival_arith.proofs.Relating.{less_false}
use Rattle.ival_arith.proofs.relations.is_less.Goals as goal

pub returns-clause-untruth : goal.returns-clause-untruth
returns-clause-untruth c =
    let b : IsBounds c.args.a.now c.in-Some.low_a c.in-Some.high_a = c.in-Some.ensures.some in
    let d : IsBounds c.args.b.now c.in-Some-bounds.low_b c.in-Some-bounds.high_b = c.in-Some-bounds.ensures.some in
    let f : FitsSigned w128 c.in-Some-bounds.low_b = search rules in
    let g : FitsSigned w128 c.in-Some.high_a = search rules in
    simp to_z-of_z (less_false c.args.a.now c.args.b.now c.in-Some.low_a c.in-Some.high_a c.in-Some-bounds.low_b c.in-Some-bounds.high_b b d)
