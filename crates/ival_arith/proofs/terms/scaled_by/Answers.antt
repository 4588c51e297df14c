use Rattle.std.proofs.Common.{slice_index_or, pos, FitsSigned, ap, ◌∙◌, rules}
use Rattle.std.specs.Int.{w128}
use Rattle.std.proofs.lemmas.Int.{to_z-of_z}
use Rattle.ival_core.specs.Joined.{joined}
use Rattle.ival_core.proofs.Ends.{Among-at}
use Rattle.ival_arith.specs.Pieces.{none}
use Rattle.ival_arith.specs.Terms.{scaled_onto}
use Rattle.ival_arith.proofs.TermCodes.{scaled_step, scaled_end}
use Rattle.ival_arith.proofs.terms.scaled_by.Goals as goal

pub scaled-requires : goal.scaled-requires
scaled-requires c x h =
    let f : FitsSigned w128 (slice_index_or c.args.others.now c.loop-other.other-index (pos 0)) = search rules in
    simp to_z-of_z (c.requires x (slice_index_or c.args.others.now c.loop-other.other-index (pos 0)) h (Among-at c.args.others.now c.loop-other.other-index (pos 0) c.loop-other-test.true))

pub loop-other-preserved : goal.loop-other-preserved
loop-other-preserved c =
    let f : FitsSigned w128 (slice_index_or c.args.others.now c.loop-other.other-index (pos 0)) = search rules in
    scaled_step c.loop-other.all.shape c.join-all.result.shape (scaled_onto none c.args.set.now.shape c.args.others.now) c.args.set.now.shape c.args.others.now c.loop-other.other-index (pos 0) c.loop-other-test.true c.loop-other.invariant
    (c.join-all.ensures ∙ ap (joined c.loop-other.all.shape) (simp to_z-of_z at c.scaled.ensures))

pub returns : goal.returns
returns c = scaled_end c.loop-other.all.shape (scaled_onto none c.args.set.now.shape c.args.others.now) c.args.set.now.shape c.args.others.now c.loop-other.other-index c.loop-other-test.false c.loop-other.invariant
