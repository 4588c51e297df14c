use Rattle.avalue_values.proofs.Making.{both_ordered}
use Rattle.avalue_values.proofs.value.AVal.bases_of_both.Goals as goal

pub returns-clause-order : goal.returns-clause-order
returns-clause-order c =
    both_ordered c.union.result c.in_ok-bases.bases.items c.in_ok-others.others.items c.as_slice.result.now c.as_slice-2.result.now c.as_slice.ensures c.as_slice-2.ensures c.in_ok-bases.ensures.order c.in_ok-others.ensures.order c.union.ensures
