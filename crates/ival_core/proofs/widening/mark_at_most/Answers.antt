use Rattle.std.proofs.Common.{◌<◌, ◌-◌, ◌+ℤ◌, length, pos, slice_index_or, arith, rules, sym}
use Rattle.std.specs.Int.{w128}
use Rattle.std.specs.Prelude.{FitsSigned}
use Rattle.std.proofs.lemmas.Int.{ints, to_z-of_z}
use Rattle.ival_core.proofs.Ends.{Among-at}
use Rattle.ival_core.proofs.Halving.{last_at_most-split, last_at_most-none, at_most_before, below_after}
use Rattle.ival_core.proofs.Insertion.{AllNumbers-among}
use Rattle.ival_core.proofs.Halving.{mark_below-none, mark_below-at}
use Rattle.ival_core.proofs.widening.mark_at_most.Goals as goal

pub returns-then-at-eq0-clause-value : goal.returns-then-at-eq0-clause-value
returns-then-at-eq0-clause-value c =
    let f : FitsSigned w128 c.args.n = c.ranges.n in
    let g : FitsSigned w128 (c.args.n +ℤ pos 1) = omega (arith, ints) in
    sym (last_at_most-none c.args.marks.now c.args.n _ (λ m k. below_after c.args.marks.now c.marks_below-at.result c.args.n c.if-at-eq0.true (simp to_z-of_z at c.marks_below-at.ensures.after) m k))

pub returns-else-at-eq0-clause-value : goal.returns-else-at-eq0-clause-value
returns-else-at-eq0-clause-value c =
    let f : FitsSigned w128 c.args.n = c.ranges.n in
    let g : FitsSigned w128 (c.args.n +ℤ pos 1) = omega (arith, ints) in
    let h : FitsSigned w128 (slice_index_or c.args.marks.now (c.marks_below-at.result - 1) (pos 0)) = search rules in
    let p : 0 < c.marks_below-at.result = omega arith in
    simp to_z-of_z (sym (last_at_most-split c.args.marks.now c.marks_below-at.result c.args.n (pos 0) _ p c.marks_below-at.ensures.bound (simp to_z-of_z at c.marks_below-at.ensures.before) (simp to_z-of_z at c.marks_below-at.ensures.after)))

pub returns-else-at-eq0-clause-below : goal.returns-else-at-eq0-clause-below
returns-else-at-eq0-clause-below c =
    let f : FitsSigned w128 c.args.n = c.ranges.n in
    let g : FitsSigned w128 (c.args.n +ℤ pos 1) = omega (arith, ints) in
    let h : FitsSigned w128 (slice_index_or c.args.marks.now (c.marks_below-at.result - 1) (pos 0)) = search rules in
    let p : 0 < c.marks_below-at.result = omega arith in
    simp to_z-of_z (at_most_before c.args.marks.now c.marks_below-at.result c.args.n (pos 0) p c.marks_below-at.ensures.bound (simp to_z-of_z at c.marks_below-at.ensures.before))

pub returns-else-at-eq0-clause-number : goal.returns-else-at-eq0-clause-number
returns-else-at-eq0-clause-number c =
    let h : FitsSigned w128 (slice_index_or c.args.marks.now (c.marks_below-at.result - 1) (pos 0)) = search rules in
    let b = c.marks_below-at.ensures.bound in
    let l : c.marks_below-at.result - 1 < length c.args.marks.now = omega arith in
    simp to_z-of_z (AllNumbers-among c.args.marks.now c.requires.marks.numbers _ (Among-at c.args.marks.now (c.marks_below-at.result - 1) (pos 0) l))

pub returns-then-at-eq0-clause-mark : goal.returns-then-at-eq0-clause-mark
returns-then-at-eq0-clause-mark c =
    let f : FitsSigned w128 c.args.n = c.ranges.n in
    let g : FitsSigned w128 (c.args.n +ℤ pos 1) = omega (arith, ints) in
    mark_below-none c.args.marks.now c.args.n c.requires.number (λ m k. below_after c.args.marks.now c.marks_below-at.result c.args.n c.if-at-eq0.true (simp to_z-of_z at c.marks_below-at.ensures.after) m k)

pub returns-else-at-eq0-clause-mark : goal.returns-else-at-eq0-clause-mark
returns-else-at-eq0-clause-mark c =
    let f : FitsSigned w128 c.args.n = c.ranges.n in
    let g : FitsSigned w128 (c.args.n +ℤ pos 1) = omega (arith, ints) in
    let h : FitsSigned w128 (slice_index_or c.args.marks.now (c.marks_below-at.result - 1) (pos 0)) = search rules in
    let p : 0 < c.marks_below-at.result = omega arith in
    simp to_z-of_z (mark_below-at c.args.marks.now c.marks_below-at.result c.args.n (pos 0) c.requires.marks.ascending p c.marks_below-at.ensures.bound (simp to_z-of_z at c.marks_below-at.ensures.before) (simp to_z-of_z at c.marks_below-at.ensures.after))
