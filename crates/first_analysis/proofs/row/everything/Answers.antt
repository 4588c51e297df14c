use Rattle.first_analysis.proofs.Rows.{held_all}
use Rattle.first_analysis.proofs.row.everything.Goals as goal

pub returns : goal.returns
returns c = held_all c.loop.row c.loop.invariant
