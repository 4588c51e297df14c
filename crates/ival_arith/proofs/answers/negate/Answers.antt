use Rattle.std.proofs.Common.{rules, ◌≡◌, ◌↔◌, IsTrue, Err}
use Rattle.c_base.specs.KindSets.{allowed}
use Rattle.ival_arith.specs.Answers.{negate_value, negate_kinds}
use Rattle.ival_arith.specs.Promises.{GivesNegated}
use Rattle.ival_arith.proofs.answers.negate.Goals as goal
use Rattle.std.proofs.Common.{subst, sym}
use Rattle.ival_arith.proofs.Negating.{negate-holds, negate-kinds, negate-exact, negate-least}

-- src/answers.rt:81:1
pub returns-clause-holds : goal.returns-clause-holds
returns-clause-holds c = let e : c.negated.result.shape ≡ negate_value c.args.k c.args.m c.args.a.now.shape = search rules in negate-holds c.args.k c.args.m c.args.a.now c.negated.result e

-- src/answers.rt:81:1
pub returns-clause-kinds : goal.returns-clause-kinds
returns-clause-kinds c = let e : c.negated_kinds.result ≡ negate_kinds c.args.k c.args.m c.args.a.now.shape = search rules in λ kind. subst (λ ks. IsTrue (allowed ks kind) ↔ GivesNegated c.args.k c.args.m c.args.a.now (Err kind)) (sym e) (negate-kinds c.args.k c.args.m c.args.a.now kind)

-- src/answers.rt:81:1
pub returns-clause-exact : goal.returns-clause-exact
returns-clause-exact c = let e : c.negated.result.shape ≡ negate_value c.args.k c.args.m c.args.a.now.shape = search rules in negate-exact c.args.k c.args.m c.args.a.now c.negated.result e

-- src/answers.rt:81:1
pub returns-clause-least : goal.returns-clause-least
returns-clause-least c = let e : c.negated.result.shape ≡ negate_value c.args.k c.args.m c.args.a.now.shape = search rules in negate-least c.args.k c.args.m c.args.a.now c.negated.result e
