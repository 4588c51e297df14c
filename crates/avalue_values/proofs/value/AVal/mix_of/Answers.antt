use Rattle.avalue_values.proofs.Mixes.{mix_order, mix_some}
use Rattle.avalue_values.proofs.value.AVal.mix_of.Goals as goal

pub mixed-requires-clause-order : goal.mixed-requires-clause-order
mixed-requires-clause-order c = mix_order c.args.bases.now c.in_ok-members.members.items c.in_ok-members.ensures

pub mixed-requires-clause-some : goal.mixed-requires-clause-some
mixed-requires-clause-some c = mix_some c.args.bases.now c.in_ok-members.members.items c.in_ok-members.ensures c.requires
