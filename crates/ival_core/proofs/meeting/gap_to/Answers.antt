use Rattle.ival_core.proofs.Solving.{IsGap-from}
use Rattle.ival_core.proofs.meeting.gap_to.Goals as goal

pub returns-else-over-eq0 : goal.returns-else-over-eq0
returns-else-over-eq0 c = IsGap-from c.args.rest c.args.modulus c.requires c.if-over-eq0.false
