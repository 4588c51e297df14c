use Rattle.std.proofs.Common.{rules, ◌≡◌}
use Rattle.ival_arith.proofs.terms.few_value.Goals as goal
use Rattle.std.proofs.Common.{ap, sym, subst, ◌∙◌}
use Rattle.ival_core.specs.declared.value.Shape.TheVariants as Shape
use Rattle.ival_core.specs.Sets.{Has}
use Rattle.ival_core.proofs.Insertion.{Holds-number}
use Rattle.ival_arith.proofs.TermCodes.{term_few, term_few_run}

-- src/terms.rt:199:28
pub few_terms-requires-clause-left : goal.few_terms-requires-clause-left
few_terms-requires-clause-left c = λ x h. Holds-number c.args.a.now x (subst (λ s. Has s x) (sym c.requires.few) h)

-- src/terms.rt:199:28
pub few_terms-requires-clause-right : goal.few_terms-requires-clause-right
few_terms-requires-clause-right c =
    let e : Shape.Few (record { items = c.as_slice.result.now }) ≡ c.args.b.now.shape = ap (λ xs. Shape.Few (record { items = xs })) (search rules) ∙ sym c.in-Few.is ∙ (search rules) in
    λ x h. Holds-number c.args.b.now x (subst (λ s. Has s x) e h)

-- src/terms.rt:193:1
pub returns-in-Few : goal.returns-in-Few
returns-in-Few c = term_few c.args.op c.args.a.now.shape c.args.b.now.shape c.shape.result.now c.few_terms.result.shape c.in-Few.few c.args.numbers.now c.as_slice.result.now c.requires.few (search rules) c.in-Few.is (search rules) c.few_terms.ensures

-- src/terms.rt:193:1
pub returns-in-Many : goal.returns-in-Many
returns-in-Many c = term_few_run c.args.op c.args.a.now.shape c.args.b.now.shape c.shape.result.now c.long_term.result.shape c.args.numbers.now c.in-Many.field-0 c.requires.few (search rules) c.in-Many.is c.long_term.ensures
