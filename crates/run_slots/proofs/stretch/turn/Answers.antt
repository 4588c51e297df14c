use Rattle.run_slots.proofs.Stretching.{turn_one, turn_all, turn_period}
use Rattle.run_slots.proofs.stretch.turn.Goals as goal

pub returns-then-wide-bits-eq0-clause-value : goal.returns-then-wide-bits-eq0-clause-value
returns-then-wide-bits-eq0-clause-value c = turn_one c.args.bits c.args.wide c.if-wide-bits-eq0.true

pub returns-then-wide-bits-eq0-clause-period : goal.returns-then-wide-bits-eq0-clause-period
returns-then-wide-bits-eq0-clause-period c = turn_period c.args.bits c.args.wide 1 c.requires (turn_one c.args.bits c.args.wide c.if-wide-bits-eq0.true)

pub returns-clause-value : goal.returns-clause-value
returns-clause-value c = turn_all c.args.bits c.args.wide c.if-wide-bits-eq0.false

pub returns-clause-period : goal.returns-clause-period
returns-clause-period c = turn_period c.args.bits c.args.wide c.args.bits c.requires (turn_all c.args.bits c.args.wide c.if-wide-bits-eq0.false)
