use Rattle.std.proofs.Common.{slice_index_or, pos, FitsSigned, ap, ◌∙◌, rules}
use Rattle.std.specs.Int.{w128}
use Rattle.std.proofs.lemmas.Int.{to_z-of_z}
use Rattle.ival_core.specs.Joined.{joined}
use Rattle.ival_core.proofs.Ends.{Among-at}
use Rattle.ival_arith.specs.Pieces.{none}
use Rattle.ival_arith.specs.Values.{part_lines}
use Rattle.ival_arith.proofs.DivisionCodes.{part_step, part_end}
use Rattle.ival_arith.proofs.divisions.part_lines.Goals as goal

pub part_line-requires : goal.part_line-requires
part_line-requires c =
    let f : FitsSigned w128 (slice_index_or c.args.others.now c.loop-other.other-index (pos 0)) = search rules in
    simp to_z-of_z (c.requires (slice_index_or c.args.others.now c.loop-other.other-index (pos 0)) (Among-at c.args.others.now c.loop-other.other-index (pos 0) c.loop-other-test.true))

pub loop-other-preserved : goal.loop-other-preserved
loop-other-preserved c =
    let f : FitsSigned w128 (slice_index_or c.args.others.now c.loop-other.other-index (pos 0)) = search rules in
    let o = c.args.format in
    part_step c.args.part o.signed o.width c.loop-other.all.shape c.join-all.result.shape (part_lines c.args.part o.signed o.width none c.args.set.now.shape c.args.others.now) c.args.set.now.shape c.args.others.now c.loop-other.other-index (pos 0) c.loop-other-test.true c.loop-other.invariant
    (c.join-all.ensures ∙ ap (joined c.loop-other.all.shape) (simp to_z-of_z at c.part_line.ensures))

pub returns : goal.returns
returns c =
    let o = c.args.format in
    part_end c.args.part o.signed o.width c.loop-other.all.shape (part_lines c.args.part o.signed o.width none c.args.set.now.shape c.args.others.now) c.args.set.now.shape c.args.others.now c.loop-other.other-index c.loop-other-test.false c.loop-other.invariant
