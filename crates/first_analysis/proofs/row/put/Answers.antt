use Rattle.std.proofs.Common.{arith}
use Rattle.first_analysis.proofs.Rows.{assigned, untouched}
use Rattle.first_analysis.proofs.row.put.Goals as goal

pub returns : goal.returns
returns c = λ env n h within fits. rw c.set.ensures (assigned c.args.row.now c.args.target.0 _ env n (omega arith) (omega arith) h fits within)

pub returns-then-target-len : goal.returns-then-target-len
returns-then-target-len c =
    let beyond = c.if-target-len.true in
    let long = c.len.ensures in
    λ env n h within fits. untouched c.args.row.now c.args.target.0 env n (λ some. omega arith) h fits
