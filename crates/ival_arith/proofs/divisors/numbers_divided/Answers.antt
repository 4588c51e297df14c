use Rattle.std.proofs.Common.{slice_index_or, pos, ◌≡◌, Some, FitsSigned, sym, ap, ◌∙◌, rules}
use Rattle.std.specs.Int.{w128}
use Rattle.std.proofs.lemmas.Int.{to_z-of_z}
use Rattle.ival_core.proofs.Ends.{Among-at}
use Rattle.ival_arith.specs.Exact.{shape_option}
use Rattle.ival_arith.specs.Pieces.{none}
use Rattle.ival_arith.specs.Values.{number_divided, numbers_divided}
use Rattle.ival_arith.proofs.TrialCodes.{numbers_step, numbers_none, numbers_done}
use Rattle.ival_arith.proofs.divisors.numbers_divided.Goals as goal

pub number_divided-requires-clause-left : goal.number_divided-requires-clause-left
number_divided-requires-clause-left c =
    let f : FitsSigned w128 (slice_index_or c.args.numbers.now c.loop-x.x-index (pos 0)) = search rules in
    simp to_z-of_z (c.requires.left (slice_index_or c.args.numbers.now c.loop-x.x-index (pos 0)) (Among-at c.args.numbers.now c.loop-x.x-index (pos 0) c.loop-x-test.true))

pub returns-in-None : goal.returns-in-None
returns-in-None c =
    let f : FitsSigned w128 (slice_index_or c.args.numbers.now c.loop-x.x-index (pos 0)) = search rules in
    let o = c.args.format in
    let d = c.args.divisors.now.shape in
    let e : shape_option c.number_divided.result ≡ number_divided c.args.part o.signed o.width d c.loop-x.all.shape (slice_index_or c.args.numbers.now c.loop-x.x-index (pos 0)) = simp to_z-of_z at c.number_divided.ensures in
    numbers_none c.args.part o.signed o.width d c.loop-x.all.shape c.args.numbers.now c.loop-x.x-index (pos 0) (numbers_divided c.args.part o.signed o.width d (Some none) c.args.numbers.now) c.loop-x-test.true c.loop-x.invariant
    (sym (ap shape_option c.in-None.is) ∙ e)

pub loop-x-preserved : goal.loop-x-preserved
loop-x-preserved c =
    let f : FitsSigned w128 (slice_index_or c.args.numbers.now c.loop-x.x-index (pos 0)) = search rules in
    let o = c.args.format in
    let d = c.args.divisors.now.shape in
    let e : shape_option c.number_divided.result ≡ number_divided c.args.part o.signed o.width d c.loop-x.all.shape (slice_index_or c.args.numbers.now c.loop-x.x-index (pos 0)) = simp to_z-of_z at c.number_divided.ensures in
    numbers_step c.args.part o.signed o.width d c.loop-x.all.shape c.args.numbers.now c.loop-x.x-index (pos 0) (Some c.in-Some.more.shape) (numbers_divided c.args.part o.signed o.width d (Some none) c.args.numbers.now) c.loop-x-test.true c.loop-x.invariant
    (sym (ap shape_option c.in-Some.is) ∙ e)

pub returns : goal.returns
returns c =
    let o = c.args.format in
    numbers_done c.args.part o.signed o.width c.args.divisors.now.shape c.loop-x.all.shape c.args.numbers.now c.loop-x.x-index (numbers_divided c.args.part o.signed o.width c.args.divisors.now.shape (Some none) c.args.numbers.now) c.loop-x-test.false c.loop-x.invariant
