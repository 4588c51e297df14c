use Rattle.std.proofs.Common.{IfOk, subst}
use Rattle.c_machine.specs.Machine as machine
use Rattle.stepper_work.specs.Effects.{Leads}
use Rattle.stepper_uses.proofs.operators.combine.Goals as goal

pub returns : goal.returns
returns c = subst (λ r. IfOk c.hold.result (Leads (λ s. machine.with_value s r) c.args.state.now c.hold.new.state)) c.in_ok-value.ensures c.hold.ensures
