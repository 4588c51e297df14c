use Rattle.std.proofs.Common.{rules, FitsSigned}
use Rattle.ival_arith.proofs.kinds.products_leave.Goals as goal
use Rattle.std.specs.Int.{w128}
use Rattle.std.proofs.lemmas.Int.{to_z-of_z}
use Rattle.ival_core.specs.Ivals.{IsBounds}

-- src/kinds.rt:107:9
pub ends_leave-last-requires-clause-factor : goal.ends_leave-last-requires-clause-factor
ends_leave-last-requires-clause-factor c = let h : IsBounds c.args.a.now c.in-Some.low_a c.in-Some.high_a = c.in-Some.ensures.some in let f : FitsSigned w128 c.in-Some.high_a = search rules in simp to_z-of_z (c.requires.left c.in-Some.high_a h.last)

-- src/kinds.rt:107:9
pub ends_leave-last-requires-clause-low : goal.ends_leave-last-requires-clause-low
ends_leave-last-requires-clause-low c = let h : IsBounds c.args.b.now c.in-Some-bounds.low_b c.in-Some-bounds.high_b = c.in-Some-bounds.ensures.some in let f : FitsSigned w128 c.in-Some-bounds.low_b = search rules in simp to_z-of_z (c.requires.right c.in-Some-bounds.low_b h.first)

-- src/kinds.rt:107:9
pub ends_leave-last-requires-clause-high : goal.ends_leave-last-requires-clause-high
ends_leave-last-requires-clause-high c = let h : IsBounds c.args.b.now c.in-Some-bounds.low_b c.in-Some-bounds.high_b = c.in-Some-bounds.ensures.some in let f : FitsSigned w128 c.in-Some-bounds.high_b = search rules in simp to_z-of_z (c.requires.right c.in-Some-bounds.high_b h.last)
