use Rattle.std.proofs.Common.{◌<ℤ◌, ◌≤ℤ◌, ◌<◌, ◌≤◌, ◌+◌, ◌-◌, ◌/◌, pos, slice_index_or, arith, rules}
use Rattle.std.specs.Int.{w128}
use Rattle.std.specs.Prelude.{FitsSigned}
use Rattle.std.proofs.lemmas.Int.{ints, to_z-of_z}
use Rattle.ival_core.proofs.Halving.{Split-up, Split-down}
use Rattle.ival_core.proofs.widening.marks_below.Goals as goal

pub loop-start-preserved-then-marks-middle : goal.loop-start-preserved-then-marks-middle
loop-start-preserved-then-marks-middle c =
    let f : FitsSigned w128 c.args.n = c.ranges.n in
    let g : FitsSigned w128 (slice_index_or c.args.marks.now (c.loop-start.start + (c.loop-start.end - c.loop-start.start) / 2) (pos 0)) = search rules in
    let l : slice_index_or c.args.marks.now (c.loop-start.start + (c.loop-start.end - c.loop-start.start) / 2) (pos 0) <ℤ c.args.n = omega (arith, ints) in
    let m : c.loop-start.start + (c.loop-start.end - c.loop-start.start) / 2 < c.loop-start.end = omega arith in
    simp to_z-of_z (Split-up c.args.marks.now c.args.n c.loop-start.start c.loop-start.end _ (pos 0) c.requires (simp to_z-of_z at c.loop-start.invariant) m l)

pub loop-start-preserved : goal.loop-start-preserved
loop-start-preserved c =
    let f : FitsSigned w128 c.args.n = c.ranges.n in
    let g : FitsSigned w128 (slice_index_or c.args.marks.now (c.loop-start.start + (c.loop-start.end - c.loop-start.start) / 2) (pos 0)) = search rules in
    let l : c.args.n ≤ℤ slice_index_or c.args.marks.now (c.loop-start.start + (c.loop-start.end - c.loop-start.start) / 2) (pos 0) = omega (arith, ints) in
    let a : c.loop-start.start ≤ c.loop-start.start + (c.loop-start.end - c.loop-start.start) / 2 = omega arith in
    let b : c.loop-start.start + (c.loop-start.end - c.loop-start.start) / 2 ≤ c.loop-start.end = omega arith in
    simp to_z-of_z (Split-down c.args.marks.now c.args.n c.loop-start.start c.loop-start.end _ (pos 0) c.requires (simp to_z-of_z at c.loop-start.invariant) a b l)
