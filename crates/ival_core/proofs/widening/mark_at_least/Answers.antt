use Rattle.std.proofs.Common.{◌<◌, length, pos, slice_index_or, arith, rules, sym}
use Rattle.std.specs.Int.{w128}
use Rattle.std.specs.Prelude.{FitsSigned}
use Rattle.std.proofs.lemmas.Int.{to_z-of_z}
use Rattle.ival_core.proofs.Ends.{Among-at}
use Rattle.ival_core.proofs.Halving.{first_at_least-at, first_at_least-none, drop_at}
use Rattle.ival_core.proofs.Insertion.{AllNumbers-among}
use Rattle.ival_core.proofs.Halving.{mark_above-none, mark_above-at}
use Rattle.ival_core.proofs.widening.mark_at_least.Goals as goal

pub returns-then-at-marks-clause-value : goal.returns-then-at-marks-clause-value
returns-then-at-marks-clause-value c =
    let f : FitsSigned w128 c.args.n = c.ranges.n in
    sym (first_at_least-none c.args.marks.now c.marks_below-at.result c.args.n _ c.if-at-marks.true (simp to_z-of_z at c.marks_below-at.ensures.before))

pub returns-else-at-marks-clause-value : goal.returns-else-at-marks-clause-value
returns-else-at-marks-clause-value c =
    let f : FitsSigned w128 c.args.n = c.ranges.n in
    let g : FitsSigned w128 (slice_index_or c.args.marks.now c.marks_below-at.result (pos 0)) = search rules in
    let l : c.marks_below-at.result < length c.args.marks.now = omega arith in
    simp to_z-of_z (sym (first_at_least-at c.args.marks.now c.marks_below-at.result c.args.n (pos 0) _ l (simp to_z-of_z at c.marks_below-at.ensures.before) (simp to_z-of_z at c.marks_below-at.ensures.after)))

pub returns-else-at-marks-clause-above : goal.returns-else-at-marks-clause-above
returns-else-at-marks-clause-above c =
    let f : FitsSigned w128 c.args.n = c.ranges.n in
    let g : FitsSigned w128 (slice_index_or c.args.marks.now c.marks_below-at.result (pos 0)) = search rules in
    let l : c.marks_below-at.result < length c.args.marks.now = omega arith in
    simp to_z-of_z ((simp to_z-of_z at c.marks_below-at.ensures.after) _ (drop_at c.args.marks.now c.marks_below-at.result (pos 0) l))

pub returns-else-at-marks-clause-number : goal.returns-else-at-marks-clause-number
returns-else-at-marks-clause-number c =
    let g : FitsSigned w128 (slice_index_or c.args.marks.now c.marks_below-at.result (pos 0)) = search rules in
    let l : c.marks_below-at.result < length c.args.marks.now = omega arith in
    simp to_z-of_z (AllNumbers-among c.args.marks.now c.requires.marks.numbers _ (Among-at c.args.marks.now c.marks_below-at.result (pos 0) l))

pub returns-then-at-marks-clause-mark : goal.returns-then-at-marks-clause-mark
returns-then-at-marks-clause-mark c =
    let f : FitsSigned w128 c.args.n = c.ranges.n in
    mark_above-none c.args.marks.now c.marks_below-at.result c.args.n c.requires.number c.if-at-marks.true (simp to_z-of_z at c.marks_below-at.ensures.before)

pub returns-else-at-marks-clause-mark : goal.returns-else-at-marks-clause-mark
returns-else-at-marks-clause-mark c =
    let f : FitsSigned w128 c.args.n = c.ranges.n in
    let g : FitsSigned w128 (slice_index_or c.args.marks.now c.marks_below-at.result (pos 0)) = search rules in
    let l : c.marks_below-at.result < length c.args.marks.now = omega arith in
    simp to_z-of_z (mark_above-at c.args.marks.now c.marks_below-at.result c.args.n (pos 0) c.requires.marks.ascending l (simp to_z-of_z at c.marks_below-at.ensures.before) (simp to_z-of_z at c.marks_below-at.ensures.after))
