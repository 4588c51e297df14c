use Rattle.aops.proofs.Sorts.{no_truth, untruth, truth, both_truths}
use Rattle.aops.proofs.numbers.truth_set.Goals as goal

pub returns-then-not-may_be_false : goal.returns-then-not-may_be_false
returns-then-not-may_be_false c = no_truth c.empty.result c.args.may_be_true c.args.may_be_false c.if-not-may_be_true.true c.if-not-may_be_false.true c.empty.ensures.value

pub returns-then-not-may_be_true : goal.returns-then-not-may_be_true
returns-then-not-may_be_true c = untruth c.single.result c.args.may_be_true c.args.may_be_false c.if-not-may_be_true.true c.if-not-may_be_false.false c.single.ensures.value

pub returns-then-not-may_be_false-2 : goal.returns-then-not-may_be_false-2
returns-then-not-may_be_false-2 c = truth c.single-then-not-may_be_false-2.result c.args.may_be_true c.args.may_be_false c.if-not-may_be_true.false c.if-not-may_be_false-2.true c.single-then-not-may_be_false-2.ensures.value

pub returns : goal.returns
returns c = both_truths c.run_from.result c.args.may_be_true c.args.may_be_false c.if-not-may_be_true.false c.if-not-may_be_false-2.false c.run_from.ensures.value
