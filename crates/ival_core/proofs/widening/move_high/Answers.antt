use Rattle.std.proofs.Common.{◌<ℤ◌, ◌≤ℤ◌, arith, rules}
use Rattle.std.specs.Int.{w128}
use Rattle.std.specs.Prelude.{FitsSigned}
use Rattle.std.proofs.lemmas.Int.{ints, to_z-of_z}
use Rattle.ival_core.proofs.Halving.{upper-moves, upper-stays}
use Rattle.ival_core.proofs.widening.move_high.Goals as goal

pub returns-then-high-joined-clause-end : goal.returns-then-high-joined-clause-end
returns-then-high-joined-clause-end c =
    let f : FitsSigned w128 c.args.joined = c.ranges.joined in
    let g : FitsSigned w128 c.args.high = c.ranges.high in
    let l : c.args.high <ℤ c.args.joined = omega (arith, ints) in
    let h : FitsSigned w128 c.mark_at_least.result = search rules in
    simp to_z-of_z (upper-moves c.args.marks.now c.args.high c.args.joined c.mark_at_least.result l (simp to_z-of_z at c.mark_at_least.ensures.mark))

pub returns-else-high-joined-clause-end : goal.returns-else-high-joined-clause-end
returns-else-high-joined-clause-end c =
    let f : FitsSigned w128 c.args.joined = c.ranges.joined in
    let g : FitsSigned w128 c.args.high = c.ranges.high in
    let l : c.args.joined ≤ℤ c.args.high = omega (arith, ints) in
    simp to_z-of_z (upper-stays c.args.marks.now c.args.high c.args.joined l)
