use Rattle.std.proofs.Common.{slice_index_or, pos, FitsSigned, rules}
use Rattle.std.specs.Int.{w128}
use Rattle.std.proofs.lemmas.Int.{to_z-of_z}
use Rattle.ival_core.proofs.Ends.{Among-at}
use Rattle.ival_arith.specs.Pieces.{gathered}
use Rattle.ival_arith.specs.Values.{rows}
use Rattle.ival_arith.proofs.Codes.{gathered_start}
use Rattle.ival_arith.proofs.ValueCodes.{rows_step, rows_done}
use Rattle.ival_arith.proofs.values.few_results.Goals as goal

pub loop-x-init : goal.loop-x-init
loop-x-init c = gathered_start c.empty-all.result.shape (rows c.args.op c.args.format.signed c.args.format.width c.args.numbers.now c.args.others.now) c.empty-all.ensures.value

pub with_row-all-requires-clause-left : goal.with_row-all-requires-clause-left
with_row-all-requires-clause-left c =
    let f : FitsSigned w128 (slice_index_or c.args.numbers.now c.loop-x.x-index (pos 0)) = search rules in
    simp to_z-of_z (c.requires.left (slice_index_or c.args.numbers.now c.loop-x.x-index (pos 0)) (Among-at c.args.numbers.now c.loop-x.x-index (pos 0) c.loop-x-test.true))

pub loop-x-preserved : goal.loop-x-preserved
loop-x-preserved c =
    let f : FitsSigned w128 (slice_index_or c.args.numbers.now c.loop-x.x-index (pos 0)) = search rules in
    let o = c.args.format in
    rows_step c.args.op o.signed o.width c.args.numbers.now c.args.others.now c.loop-x.x-index (pos 0) c.loop-x.all.shape c.with_row-all.result.shape (gathered (rows c.args.op o.signed o.width c.args.numbers.now c.args.others.now)) c.loop-x-test.true
    c.loop-x.invariant (simp to_z-of_z at c.with_row-all.ensures)

pub returns : goal.returns
returns c =
    let o = c.args.format in
    rows_done c.args.op o.signed o.width c.args.numbers.now c.args.others.now c.loop-x.x-index c.loop-x.all.shape (gathered (rows c.args.op o.signed o.width c.args.numbers.now c.args.others.now)) c.loop-x-test.false c.loop-x.invariant
