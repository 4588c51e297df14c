use Rattle.stepper_types.proofs.ByNumber.{base_got}
use Rattle.stepper_types.proofs.bases.base_in.Goals as goal

pub returns : goal.returns
returns c = base_got c.as_slice.result.now c.args.program.now.bases c.args.base c.get.result c.as_slice.ensures c.get.ensures.lookup.3 c.get.ensures.lookup.1
