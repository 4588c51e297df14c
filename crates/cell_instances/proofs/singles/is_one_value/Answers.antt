use Rattle.cell_instances.proofs.Many.{many_not_one}
use Rattle.cell_instances.proofs.singles.is_one_value.Goals as goal

pub returns-then-addresses-gt1 : goal.returns-then-addresses-gt1
returns-then-addresses-gt1 c = many_not_one c.args.bits c.args.value.now c.addresses-addresses.result.now c.addresses-addresses.ensures.value c.addresses-addresses.ensures.order c.if-addresses-gt1.true
