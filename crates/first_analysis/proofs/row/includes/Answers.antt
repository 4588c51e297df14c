use Rattle.std.proofs.Common.{arith}
use Rattle.first_analysis.proofs.Rows.{held}
use Rattle.first_analysis.proofs.row.includes.Goals as goal

pub returns : goal.returns
returns c = λ yes env h. held c.args.kept.now c.args.row.now env (omega arith) (λ k d within. c.loop-index.invariant.each k d (omega arith)) h
