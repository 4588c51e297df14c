use Rattle.std.proofs.Common.{rules}
use Rattle.ival_arith.proofs.terms.remainders.Goals as goal
use Rattle.std.proofs.Common.{arith}
use Rattle.ival_core.proofs.Insertion.{Holds-number}
use Rattle.ival_arith.proofs.TermSets.{numbers_near}
use Rattle.ival_arith.proofs.TermCodes.{remainder_here}

-- src/terms.rt:178:5
pub around-requires : goal.around-requires
around-requires c = let e = c.extent-2.ensures in let f = c.min.ensures in let h = numbers_near c.args.a.now.shape c.args.a.now.valid (λ n h. Holds-number c.args.a.now n h) in omega arith

-- src/terms.rt:174:1
pub returns : goal.returns
returns c = remainder_here c.args.a.now.shape c.args.b.now.shape c.around.result.shape c.is_natural.result c.min.result c.is_natural.ensures (search rules) c.around.ensures
