use Rattle.std.proofs.Common.{◌<ℤ◌, ◌≤ℤ◌, arith, rules}
use Rattle.std.specs.Int.{w128}
use Rattle.std.specs.Prelude.{FitsSigned}
use Rattle.std.proofs.lemmas.Int.{ints, to_z-of_z}
use Rattle.ival_core.proofs.Halving.{lower-moves, lower-stays}
use Rattle.ival_core.proofs.widening.move_low.Goals as goal

pub returns-then-joined-low-clause-end : goal.returns-then-joined-low-clause-end
returns-then-joined-low-clause-end c =
    let f : FitsSigned w128 c.args.joined = c.ranges.joined in
    let g : FitsSigned w128 c.args.low = c.ranges.low in
    let l : c.args.joined <ℤ c.args.low = omega (arith, ints) in
    let h : FitsSigned w128 c.mark_at_most.result = search rules in
    simp to_z-of_z (lower-moves c.args.marks.now c.args.low c.args.joined c.mark_at_most.result l (simp to_z-of_z at c.mark_at_most.ensures.mark))

pub returns-else-joined-low-clause-end : goal.returns-else-joined-low-clause-end
returns-else-joined-low-clause-end c =
    let f : FitsSigned w128 c.args.joined = c.ranges.joined in
    let g : FitsSigned w128 c.args.low = c.ranges.low in
    let l : c.args.low ≤ℤ c.args.joined = omega (arith, ints) in
    simp to_z-of_z (lower-stays c.args.marks.now c.args.low c.args.joined l)
