use Rattle.cell_instances.proofs.Many.{none_is_one}
use Rattle.cell_instances.proofs.singles.is_one.Goals as goal

pub returns-in-None : goal.returns-in-None
returns-in-None c = none_is_one c.args.bits c.empty.result.shape c.args.value.now c.agree.result c.in-None.is c.empty.ensures.value c.agree.ensures
