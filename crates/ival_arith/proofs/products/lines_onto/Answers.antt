use Rattle.std.proofs.Common.{slice_index_or, pos, FitsSigned, ap, ◌∙◌, rules}
use Rattle.std.specs.Int.{w128}
use Rattle.std.proofs.lemmas.Int.{to_z-of_z}
use Rattle.ival_core.specs.Joined.{joined}
use Rattle.ival_core.proofs.Ends.{Among-at}
use Rattle.ival_arith.specs.Values.{lines_onto}
use Rattle.ival_arith.proofs.ProductCodes.{lines_step, lines_end}
use Rattle.ival_arith.proofs.products.lines_onto.Goals as goal

pub line-requires-clause-factor : goal.line-requires-clause-factor
line-requires-clause-factor c =
    let f : FitsSigned w128 (slice_index_or c.args.others.now c.loop-other.other-index (pos 0)) = search rules in
    simp to_z-of_z (c.requires.factors (slice_index_or c.args.others.now c.loop-other.other-index (pos 0)) (Among-at c.args.others.now c.loop-other.other-index (pos 0) c.loop-other-test.true))

pub loop-other-preserved : goal.loop-other-preserved
loop-other-preserved c =
    let f : FitsSigned w128 (slice_index_or c.args.others.now c.loop-other.other-index (pos 0)) = search rules in
    let o = c.args.format in
    lines_step o.signed o.width c.loop-other.all.shape c.join-all.result.shape (lines_onto o.signed o.width c.args.set.now.shape c.args.run c.args.others.now) c.args.run c.args.others.now c.loop-other.other-index (pos 0) c.loop-other-test.true c.loop-other.invariant
    (c.join-all.ensures ∙ ap (joined c.loop-other.all.shape) (simp to_z-of_z at c.line.ensures))

pub returns : goal.returns
returns c =
    let o = c.args.format in
    lines_end o.signed o.width c.loop-other.all.shape (lines_onto o.signed o.width c.args.set.now.shape c.args.run c.args.others.now) c.args.run c.args.others.now c.loop-other.other-index c.loop-other-test.false c.loop-other.invariant
