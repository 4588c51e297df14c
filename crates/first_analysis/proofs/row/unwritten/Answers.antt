use Rattle.first_analysis.proofs.Rows.{from_gets}
use Rattle.std.proofs.Common.{None}
use Rattle.first_analysis.proofs.row.unwritten.Goals as goal

pub returns : goal.returns
returns c = from_gets c.loop.row (λ base. None) (λ base. tt) c.loop.invariant
