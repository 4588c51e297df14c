use Rattle.avalue_values.proofs.Making.{common_ordered}
use Rattle.avalue_values.proofs.value.AVal.meet_mixes.Goals as goal

pub mixed-requires-clause-order : goal.mixed-requires-clause-order
mixed-requires-clause-order c = common_ordered c.members.result.now c.members-2.result.now c.in_ok-bases.bases.items c.in_ok-bases.ensures c.members.ensures.order
