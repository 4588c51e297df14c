use Rattle.ival_arith.specs.Terms.{AllDefined}
use Rattle.ival_arith.proofs.terms.long_term.Goals as goal
use Rattle.std.proofs.Common.{subst}

-- src/terms.rt:186:26
pub products-requires : goal.products-requires
products-requires c = subst (λ o. AllDefined o c.args.a.now c.args.b.now) c.in-Product.is c.requires
