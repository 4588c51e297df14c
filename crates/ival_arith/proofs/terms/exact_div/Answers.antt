use Rattle.ival_arith.proofs.terms.exact_div.Goals as goal
use Rattle.ival_arith.specs.declared.terms.Term.TheVariants.{Quotient}
use Rattle.ival_arith.proofs.TermCodes.{term_holds, term_single, term_divided}

-- src/terms.rt:276:1
pub returns-clause-divided : goal.returns-clause-divided
returns-clause-divided c = term_divided Quotient c.args.a.now c.args.b.now c.exact_term.result (λ x y h. h) c.exact_term.ensures.defined

-- src/terms.rt:276:1
pub returns-clause-holds : goal.returns-clause-holds
returns-clause-holds c = term_holds Quotient c.args.a.now c.args.b.now c.exact_term.result c.exact_term.ensures.value c.exact_term.ensures.defined

-- src/terms.rt:276:1
pub returns-clause-single : goal.returns-clause-single
returns-clause-single c = term_single Quotient c.args.a.now c.args.b.now c.exact_term.result c.exact_term.ensures.value c.exact_term.ensures.defined
