use Rattle.std.proofs.Common.{rules, FitsSigned}
use Rattle.ival_arith.proofs.kinds.sums_leave.Goals as goal
use Rattle.std.specs.Int.{w128}
use Rattle.std.proofs.lemmas.Int.{to_z-of_z}
use Rattle.ival_core.specs.Ivals.{IsBounds}
use Rattle.ival_core.proofs.Insertion.{Holds-number}

-- src/kinds.rt:70:38
pub sum-requires-2-clause-left : goal.sum-requires-2-clause-left
sum-requires-2-clause-left c = let h : IsBounds c.args.a.now c.in-Some.low_a c.in-Some.high_a = c.in-Some.ensures.some in let f : FitsSigned w128 c.in-Some.high_a = search rules in simp to_z-of_z (Holds-number c.args.a.now c.in-Some.high_a h.last)

-- src/kinds.rt:70:38
pub sum-requires-2-clause-right : goal.sum-requires-2-clause-right
sum-requires-2-clause-right c = let h : IsBounds c.args.b.now c.in-Some-bounds.low_b c.in-Some-bounds.high_b = c.in-Some-bounds.ensures.some in let f : FitsSigned w128 c.in-Some-bounds.high_b = search rules in simp to_z-of_z (Holds-number c.args.b.now c.in-Some-bounds.high_b h.last)
