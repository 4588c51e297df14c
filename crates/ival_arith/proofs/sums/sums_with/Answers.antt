use Rattle.std.proofs.Common.{◌≡◌, slice_index_or, pos, FitsSigned, ap, ◌∙◌, rules}
use Rattle.std.specs.Int.{w128}
use Rattle.std.proofs.lemmas.Int.{to_z-of_z}
use Rattle.ival_core.specs.Joined.{joined}
use Rattle.ival_core.proofs.Ends.{Among-at}
use Rattle.ival_arith.specs.declared.pieces.Change.TheVariants.{Plus}
use Rattle.ival_arith.specs.Pieces.{none, clipped, all_changed}
use Rattle.ival_arith.specs.Sums.{sums_onto}
use Rattle.ival_arith.proofs.SumCodes.{onto_step, onto_end, onto_start}
use Rattle.ival_arith.proofs.sums.sums_with.Goals as goal

pub loop-other-init : goal.loop-other-init
loop-other-init c =
    let g : FitsSigned w128 c.args.lo = c.ranges.lo in
    let h : FitsSigned w128 c.args.hi = c.ranges.hi in
    simp to_z-of_z (onto_start c.args.lo c.args.hi c.empty-all.result.shape c.args.set.now.shape c.args.others.now c.empty-all.ensures.value)

pub changed-moved-requires : goal.changed-moved-requires
changed-moved-requires c =
    let f : FitsSigned w128 (slice_index_or c.args.others.now c.loop-other.other-index (pos 0)) = search rules in
    record {
      change = tt;
      numbers = λ n h. simp to_z-of_z (c.requires.sums n (slice_index_or c.args.others.now c.loop-other.other-index (pos 0)) h (Among-at c.args.others.now c.loop-other.other-index (pos 0) c.loop-other-test.true));
    }

pub loop-other-preserved : goal.loop-other-preserved
loop-other-preserved c =
    let f : FitsSigned w128 (slice_index_or c.args.others.now c.loop-other.other-index (pos 0)) = search rules in
    let g : FitsSigned w128 c.args.lo = c.ranges.lo in
    let h : FitsSigned w128 c.args.hi = c.ranges.hi in
    let k : c.clipped-cut.result.shape ≡ clipped c.args.lo c.args.hi c.changed-moved.result.shape = simp to_z-of_z at c.clipped-cut.ensures in
    let m : c.changed-moved.result.shape ≡ all_changed (Plus (slice_index_or c.args.others.now c.loop-other.other-index (pos 0))) c.args.set.now.shape = simp to_z-of_z at c.changed-moved.ensures in
    simp to_z-of_z
    (onto_step c.args.lo c.args.hi c.loop-other.all.shape c.args.set.now.shape c.join-all.result.shape (sums_onto c.args.lo c.args.hi none c.args.set.now.shape c.args.others.now) c.args.others.now c.loop-other.other-index (pos 0) c.loop-other-test.true
    (simp to_z-of_z at c.loop-other.invariant)
    (c.join-all.ensures ∙ ap (joined c.loop-other.all.shape) (k ∙ ap (clipped c.args.lo c.args.hi) m)))

pub returns : goal.returns
returns c =
    let g : FitsSigned w128 c.args.lo = c.ranges.lo in
    let h : FitsSigned w128 c.args.hi = c.ranges.hi in
    onto_end c.args.lo c.args.hi c.loop-other.all.shape c.args.set.now.shape (sums_onto c.args.lo c.args.hi none c.args.set.now.shape c.args.others.now) c.args.others.now c.loop-other.other-index c.loop-other-test.false (simp to_z-of_z at c.loop-other.invariant)
