use Rattle.std.proofs.Common.{slice_index_or, pos, FitsSigned, rules}
use Rattle.std.specs.Int.{w128}
use Rattle.std.proofs.lemmas.Int.{to_z-of_z}
use Rattle.ival_core.proofs.Ends.{Among-at}
use Rattle.ival_core.proofs.Insertion.{AllNumbers-among}
use Rattle.ival_arith.specs.Pieces.{within, gathered}
use Rattle.ival_arith.proofs.Codes.{step_within, within_end, gathered_start}
use Rattle.ival_arith.proofs.pieces.few_clipped.Goals as goal

pub loop-n-init : goal.loop-n-init
loop-n-init c =
    let g : FitsSigned w128 c.args.lo = c.ranges.lo in
    let h : FitsSigned w128 c.args.hi = c.ranges.hi in
    simp to_z-of_z (gathered_start c.empty-all.result.shape (within c.args.lo c.args.hi c.args.few.now) c.empty-all.ensures.value)

pub with_within-all-requires : goal.with_within-all-requires
with_within-all-requires c =
    let f : FitsSigned w128 (slice_index_or c.args.few.now c.loop-n.n-index (pos 0)) = search rules in
    simp to_z-of_z (AllNumbers-among c.args.few.now c.requires _ (Among-at c.args.few.now c.loop-n.n-index (pos 0) c.loop-n-test.true))

pub loop-n-preserved : goal.loop-n-preserved
loop-n-preserved c =
    let f : FitsSigned w128 (slice_index_or c.args.few.now c.loop-n.n-index (pos 0)) = search rules in
    let g : FitsSigned w128 c.args.lo = c.ranges.lo in
    let h : FitsSigned w128 c.args.hi = c.ranges.hi in
    simp to_z-of_z
    (step_within c.args.lo c.args.hi c.args.few.now c.loop-n.n-index (pos 0) c.loop-n.all.shape c.with_within-all.result.shape (gathered (within c.args.lo c.args.hi c.args.few.now)) c.loop-n-test.true
    (simp to_z-of_z at c.loop-n.invariant) (simp to_z-of_z at c.with_within-all.ensures))

pub returns : goal.returns
returns c =
    let g : FitsSigned w128 c.args.lo = c.ranges.lo in
    let h : FitsSigned w128 c.args.hi = c.ranges.hi in
    within_end c.args.lo c.args.hi c.args.few.now c.loop-n.n-index c.loop-n.all.shape (gathered (within c.args.lo c.args.hi c.args.few.now)) c.loop-n-test.false (simp to_z-of_z at c.loop-n.invariant)
