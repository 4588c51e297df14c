use Rattle.std.proofs.Common.{[], slice_index_or, pos, FitsSigned, ap, ◌∙◌, rules}
use Rattle.std.specs.Int.{w128}
use Rattle.std.proofs.lemmas.Int.{to_z-of_z}
use Rattle.c_base.specs.Integers.{FitsKind}
use Rattle.c_base.proofs.Counts.{on_right}
use Rattle.ival_core.specs.Joined.{with_numbers}
use Rattle.ival_core.proofs.Ends.{Among-at}
use Rattle.ival_arith.specs.Values.{kept, row}
use Rattle.ival_arith.proofs.ValueCodes.{row_step, row_done, in_format, fits_format}
use Rattle.ival_arith.proofs.Words.{operated_number}
use Rattle.ival_arith.proofs.values.with_row.Goals as goal

pub apply_binary-outcome-requires-clause-right : goal.apply_binary-outcome-requires-clause-right
apply_binary-outcome-requires-clause-right c =
    let f : FitsSigned w128 (slice_index_or c.args.others.now c.loop-y.y-index (pos 0)) = search rules in
    simp to_z-of_z
    (on_right c.args.op (λ n. FitsKind c.args.format.kind c.args.format.machine n) (slice_index_or c.args.others.now c.loop-y.y-index (pos 0))
    (c.requires.right (slice_index_or c.args.others.now c.loop-y.y-index (pos 0)) (Among-at c.args.others.now c.loop-y.y-index (pos 0) c.loop-y-test.true)))

pub with_result-all-requires : goal.with_result-all-requires
with_result-all-requires c =
    let f : FitsSigned w128 (slice_index_or c.args.others.now c.loop-y.y-index (pos 0)) = search rules in
    let g : FitsSigned w128 c.args.x = c.ranges.x in
    let o = c.args.format in
    operated_number c.args.op o.signed o.width c.args.x (slice_index_or c.args.others.now c.loop-y.y-index (pos 0)) c.apply_binary-outcome.result o.some o.room (fits_format o.signed o.width o.kind o.machine c.args.x o.sign o.bits c.requires.left)
    ((simp to_z-of_z at c.apply_binary-outcome.ensures) ∙ in_format c.args.op o.signed o.width o.kind o.machine c.args.x (slice_index_or c.args.others.now c.loop-y.y-index (pos 0)) o.sign o.bits)

pub loop-y-preserved : goal.loop-y-preserved
loop-y-preserved c =
    let f : FitsSigned w128 (slice_index_or c.args.others.now c.loop-y.y-index (pos 0)) = search rules in
    let g : FitsSigned w128 c.args.x = c.ranges.x in
    let o = c.args.format in
    simp to_z-of_z
    (row_step c.args.op o.signed o.width c.args.x c.args.others.now c.loop-y.y-index (pos 0) c.loop-y.all.shape c.with_result-all.result.shape (with_numbers c.args.set.now.shape (row c.args.op o.signed o.width c.args.x c.args.others.now)) c.loop-y-test.true
    (simp to_z-of_z at c.loop-y.invariant)
    (c.with_result-all.ensures ∙ ap (λ r. with_numbers c.loop-y.all.shape (kept r []))
    ((simp to_z-of_z at c.apply_binary-outcome.ensures) ∙ in_format c.args.op o.signed o.width o.kind o.machine c.args.x (slice_index_or c.args.others.now c.loop-y.y-index (pos 0)) o.sign o.bits)))

pub returns : goal.returns
returns c =
    let g : FitsSigned w128 c.args.x = c.ranges.x in
    let o = c.args.format in
    row_done c.args.op o.signed o.width c.args.x c.args.others.now c.loop-y.y-index c.loop-y.all.shape (with_numbers c.args.set.now.shape (row c.args.op o.signed o.width c.args.x c.args.others.now)) c.loop-y-test.false (simp to_z-of_z at c.loop-y.invariant)
