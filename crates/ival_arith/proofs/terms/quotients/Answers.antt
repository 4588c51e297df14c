use Rattle.std.proofs.Common.{rules}
use Rattle.ival_arith.proofs.terms.quotients.Goals as goal
use Rattle.std.proofs.Common.{arith}
use Rattle.ival_core.proofs.Insertion.{Holds-number}
use Rattle.ival_arith.proofs.TermSets.{numbers_near}
use Rattle.ival_arith.proofs.TermCodes.{quotient_here}

-- src/terms.rt:171:5
pub around-requires : goal.around-requires
around-requires c = let e = c.extent.ensures in let h = numbers_near c.args.a.now.shape c.args.a.now.valid (λ n h. Holds-number c.args.a.now n h) in omega (arith, e)

-- src/terms.rt:168:1
pub returns : goal.returns
returns c = quotient_here c.args.a.now.shape c.args.b.now.shape c.around.result.shape c.both.result c.extent.result (search rules) c.extent.ensures c.around.ensures
