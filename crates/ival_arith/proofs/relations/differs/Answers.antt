use Rattle.std.proofs.Common.{FitsSigned, rules}
use Rattle.std.specs.Int.{w128}
use Rattle.std.proofs.lemmas.Int.{to_z-of_z}
use Rattle.ival_core.specs.Ivals.{IsBounds}
use Rattle.ival_core.proofs.Orders.{lt_false}
use Rattle.ival_arith.proofs.Relating.{differs_high}
use Rattle.ival_arith.proofs.relations.differs.Goals as goal

pub returns : goal.returns
returns c =
    let b : IsBounds c.args.a.now c.in-Some.low_a c.in-Some.high_a = c.in-Some.ensures.some in
    let d : IsBounds c.args.b.now c.in-Some-bounds.low_b c.in-Some-bounds.high_b = c.in-Some-bounds.ensures.some in
    let f : FitsSigned w128 c.in-Some-bounds.low_b = search rules in
    let g : FitsSigned w128 c.in-Some.high_a = search rules in
    let h : FitsSigned w128 c.in-Some.low_a = search rules in
    let i : FitsSigned w128 c.in-Some-bounds.high_b = search rules in
    simp to_z-of_z (differs_high c.args.a.now c.args.b.now c.in-Some.low_a c.in-Some.high_a c.in-Some-bounds.low_b c.in-Some-bounds.high_b b d (lt_false c.in-Some.low_a c.in-Some-bounds.high_b (simp to_z-of_z at c.if-low_a-high_b.false)))
