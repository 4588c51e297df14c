use Rattle.aops.proofs.Sorts.{related_is}
use Rattle.aops.proofs.numbers.related.Goals as goal

pub returns : goal.returns
returns c =
    related_is c.args.rel c.args.a.now c.args.b.now c.truth_set.result c.compare-truths.result.may_be_true c.compare-truths.result.may_be_false c.compare-truths.ensures.truth c.compare-truths.ensures.untruth c.truth_set.ensures
