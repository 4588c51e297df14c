use Rattle.std.proofs.Common.{slice_index_or, pos, FitsSigned, rules}
use Rattle.std.specs.Int.{w128}
use Rattle.std.proofs.lemmas.Int.{to_z-of_z}
use Rattle.ival_core.proofs.Ends.{Among-at}
use Rattle.ival_arith.specs.Pieces.{gathered}
use Rattle.ival_arith.specs.Terms.{crossed}
use Rattle.ival_arith.proofs.Codes.{gathered_start}
use Rattle.ival_arith.proofs.TermCodes.{crossed_step, crossed_done}
use Rattle.ival_arith.proofs.terms.few_terms.Goals as goal

pub loop-x-init : goal.loop-x-init
loop-x-init c = gathered_start c.empty-all.result.shape (crossed c.args.op c.args.numbers.now c.args.others.now) c.empty-all.ensures.value

pub with_terms-all-requires-clause-left : goal.with_terms-all-requires-clause-left
with_terms-all-requires-clause-left c =
    let f : FitsSigned w128 (slice_index_or c.args.numbers.now c.loop-x.x-index (pos 0)) = search rules in
    simp to_z-of_z (c.requires.left (slice_index_or c.args.numbers.now c.loop-x.x-index (pos 0)) (Among-at c.args.numbers.now c.loop-x.x-index (pos 0) c.loop-x-test.true))

pub with_terms-all-requires-clause-defined : goal.with_terms-all-requires-clause-defined
with_terms-all-requires-clause-defined c y m =
    let f : FitsSigned w128 (slice_index_or c.args.numbers.now c.loop-x.x-index (pos 0)) = search rules in
    simp to_z-of_z (c.requires.defined (slice_index_or c.args.numbers.now c.loop-x.x-index (pos 0)) y (Among-at c.args.numbers.now c.loop-x.x-index (pos 0) c.loop-x-test.true) m)

pub loop-x-preserved : goal.loop-x-preserved
loop-x-preserved c =
    let f : FitsSigned w128 (slice_index_or c.args.numbers.now c.loop-x.x-index (pos 0)) = search rules in
    crossed_step c.args.op c.args.numbers.now c.args.others.now c.loop-x.x-index (pos 0) c.loop-x.all.shape c.with_terms-all.result.shape (gathered (crossed c.args.op c.args.numbers.now c.args.others.now)) c.loop-x-test.true
    c.loop-x.invariant (simp to_z-of_z at c.with_terms-all.ensures)

pub returns : goal.returns
returns c = crossed_done c.args.op c.args.numbers.now c.args.others.now c.loop-x.x-index c.loop-x.all.shape (gathered (crossed c.args.op c.args.numbers.now c.args.others.now)) c.loop-x-test.false c.loop-x.invariant
