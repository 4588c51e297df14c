use Rattle.std.proofs.Common.{slice_index_or, pos, FitsSigned, ap, ◌∙◌, rules}
use Rattle.std.specs.Int.{w128}
use Rattle.std.proofs.lemmas.Int.{to_z-of_z}
use Rattle.ival_core.specs.Joined.{with_numbers, with_number}
use Rattle.ival_core.proofs.Ends.{Among-at}
use Rattle.ival_arith.specs.Terms.{terms}
use Rattle.ival_arith.proofs.TermCodes.{terms_step, terms_done}
use Rattle.ival_arith.proofs.terms.with_terms.Goals as goal

pub term_of-requires-clause-right : goal.term_of-requires-clause-right
term_of-requires-clause-right c =
    let f : FitsSigned w128 (slice_index_or c.args.others.now c.loop-y.y-index (pos 0)) = search rules in
    simp to_z-of_z (c.requires.right (slice_index_or c.args.others.now c.loop-y.y-index (pos 0)) (Among-at c.args.others.now c.loop-y.y-index (pos 0) c.loop-y-test.true))

pub term_of-requires-clause-defined : goal.term_of-requires-clause-defined
term_of-requires-clause-defined c =
    let f : FitsSigned w128 (slice_index_or c.args.others.now c.loop-y.y-index (pos 0)) = search rules in
    let g : FitsSigned w128 c.args.x = c.ranges.x in
    simp to_z-of_z (c.requires.defined (slice_index_or c.args.others.now c.loop-y.y-index (pos 0)) (Among-at c.args.others.now c.loop-y.y-index (pos 0) c.loop-y-test.true))

pub loop-y-preserved : goal.loop-y-preserved
loop-y-preserved c =
    let f : FitsSigned w128 (slice_index_or c.args.others.now c.loop-y.y-index (pos 0)) = search rules in
    let g : FitsSigned w128 c.args.x = c.ranges.x in
    let h : FitsSigned w128 c.term_of.result = search rules in
    simp to_z-of_z (terms_step c.args.op c.args.x c.args.others.now c.loop-y.y-index (pos 0) c.loop-y.all.shape c.with-all.result.shape (with_numbers c.args.set.now.shape (terms c.args.op c.args.x c.args.others.now)) c.loop-y-test.true
    (simp to_z-of_z at c.loop-y.invariant) ((simp to_z-of_z at c.with-all.ensures) ∙ ap (with_number c.loop-y.all.shape) (simp to_z-of_z at c.term_of.ensures.value)))

pub returns : goal.returns
returns c =
    let g : FitsSigned w128 c.args.x = c.ranges.x in
    terms_done c.args.op c.args.x c.args.others.now c.loop-y.y-index c.loop-y.all.shape (with_numbers c.args.set.now.shape (terms c.args.op c.args.x c.args.others.now)) c.loop-y-test.false (simp to_z-of_z at c.loop-y.invariant)
