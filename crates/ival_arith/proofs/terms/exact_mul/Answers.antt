use Rattle.ival_arith.proofs.terms.exact_mul.Goals as goal
use Rattle.ival_arith.specs.declared.terms.Term.TheVariants.{Product}
use Rattle.ival_arith.proofs.TermCodes.{term_holds, term_single}

-- src/terms.rt:265:1
pub returns-clause-holds : goal.returns-clause-holds
returns-clause-holds c = term_holds Product c.args.a.now c.args.b.now c.exact_term.result c.exact_term.ensures.value c.exact_term.ensures.defined

-- src/terms.rt:265:1
pub returns-clause-single : goal.returns-clause-single
returns-clause-single c = term_single Product c.args.a.now c.args.b.now c.exact_term.result c.exact_term.ensures.value c.exact_term.ensures.defined
