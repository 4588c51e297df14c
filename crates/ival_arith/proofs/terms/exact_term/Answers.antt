use Rattle.ival_arith.proofs.terms.exact_term.Goals as goal
use Rattle.std.proofs.Common.{sym, ◌∙◌}
use Rattle.ival_arith.proofs.TermSets.{lacks_true, lacks_false}
use Rattle.ival_arith.proofs.TermCodes.{exact_lacks, exact_has}

-- src/terms.rt:260:14
pub term_value-requires : goal.term_value-requires
term_value-requires c = lacks_false c.args.op c.args.a.now c.args.b.now (sym c.lacks.ensures ∙ c.if-lacks.false)

-- src/terms.rt:252:1
pub returns-then-lacks-clause-value : goal.returns-then-lacks-clause-value
returns-then-lacks-clause-value c = exact_lacks c.args.op c.args.a.now.shape c.args.b.now.shape (sym c.lacks.ensures ∙ c.if-lacks.true)

-- src/terms.rt:252:1
pub returns-then-lacks-clause-lacks : goal.returns-then-lacks-clause-lacks
returns-then-lacks-clause-lacks c = lacks_true c.args.op c.args.a.now c.args.b.now (sym c.lacks.ensures ∙ c.if-lacks.true)

-- src/terms.rt:252:1
pub returns-else-lacks-clause-value : goal.returns-else-lacks-clause-value
returns-else-lacks-clause-value c = exact_has c.args.op c.args.a.now.shape c.args.b.now.shape c.term_value.result.shape (sym c.lacks.ensures ∙ c.if-lacks.false) c.term_value.ensures

-- src/terms.rt:252:1
pub returns-else-lacks-clause-defined : goal.returns-else-lacks-clause-defined
returns-else-lacks-clause-defined c = lacks_false c.args.op c.args.a.now c.args.b.now (sym c.lacks.ensures ∙ c.if-lacks.false)
