use Rattle.std.proofs.Common.{rules}
use Rattle.ival_arith.proofs.terms.term_value.Goals as goal
use Rattle.ival_arith.proofs.TermCodes.{term_run}

-- src/terms.rt:204:1
pub returns-in-Many : goal.returns-in-Many
returns-in-Many c = term_run c.args.op c.args.a.now.shape c.args.b.now.shape c.shape.result.now c.long_term.result.shape c.in-Many.field-0 (search rules) c.in-Many.is c.long_term.ensures
