use Rattle.std.proofs.Common.{sym, ◌∙◌}
use Rattle.ival_arith.proofs.Exacting.{exact_some, exact_none, exact_least}
use Rattle.ival_arith.proofs.exact.exact_add.Goals as goal

pub returns-then-sums_stay-clause-value : goal.returns-then-sums_stay-clause-value
returns-then-sums_stay-clause-value c = exact_some c.args.a.now.shape c.args.b.now.shape c.sums.result.shape (sym c.sums_stay.ensures.value ∙ c.if-sums_stay.true) c.sums.ensures

pub returns-then-sums_stay-clause-least : goal.returns-then-sums_stay-clause-least
returns-then-sums_stay-clause-least c = exact_least c.args.a.now c.args.b.now c.sums.result.shape (c.sums_stay.ensures.stays c.if-sums_stay.true) c.sums.ensures

pub returns-else-sums_stay-clause-value : goal.returns-else-sums_stay-clause-value
returns-else-sums_stay-clause-value c = exact_none c.args.a.now.shape c.args.b.now.shape (sym c.sums_stay.ensures.value ∙ c.if-sums_stay.false)
