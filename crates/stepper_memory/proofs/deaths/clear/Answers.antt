use Rattle.std.proofs.Common.{arith}
use Rattle.stepper_memory.proofs.Dying.{set_is_cleared, far_is_cleared}
use Rattle.stepper_memory.proofs.deaths.clear.Goals as goal

pub returns-then-base-len : goal.returns-then-base-len
returns-then-base-len c = set_is_cleared c.args.table.now.items c.args.base (omega (arith, c.len.ensures))

pub returns-else-base-len : goal.returns-else-base-len
returns-else-base-len c = far_is_cleared c.args.table.now.items c.args.base (omega (arith, c.len.ensures))
