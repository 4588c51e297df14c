use Rattle.std.proofs.Common.{rules, ◌≡◌, ◌↔◌, IsTrue, Err}
use Rattle.c_base.specs.KindSets.{allowed}
use Rattle.ival_arith.specs.Answers.{binary_value, binary_kinds}
use Rattle.ival_arith.specs.Promises.{Gives}
use Rattle.ival_arith.proofs.answers.binary.Goals as goal
use Rattle.std.proofs.Common.{subst, sym}
use Rattle.ival_arith.proofs.Answering.{binary-holds, binary-kinds, binary-exact, binary-least_sum, binary-least_difference}

-- src/answers.rt:37:1
pub returns-clause-holds : goal.returns-clause-holds
returns-clause-holds c = let e : c.value.result.shape ≡ binary_value c.args.op c.args.k c.args.m c.args.a.now.shape c.args.b.now.shape = search rules in binary-holds c.args.op c.args.k c.args.m c.args.a.now c.args.b.now c.value.result c.requires e

-- src/answers.rt:37:1
pub returns-clause-kinds : goal.returns-clause-kinds
returns-clause-kinds c = let e : c.kinds.result ≡ binary_kinds c.args.op c.args.k c.args.m c.args.a.now.shape c.args.b.now.shape = search rules in λ kind. subst (λ ks. IsTrue (allowed ks kind) ↔ Gives c.args.op c.args.k c.args.m c.args.a.now c.args.b.now (Err kind)) (sym e) (binary-kinds c.args.op c.args.k c.args.m c.args.a.now c.args.b.now kind c.requires)

-- src/answers.rt:37:1
pub returns-clause-exact : goal.returns-clause-exact
returns-clause-exact c = let e : c.value.result.shape ≡ binary_value c.args.op c.args.k c.args.m c.args.a.now.shape c.args.b.now.shape = search rules in binary-exact c.args.op c.args.k c.args.m c.args.a.now c.args.b.now c.value.result c.requires e

-- src/answers.rt:37:1
pub returns-clause-least_sum : goal.returns-clause-least_sum
returns-clause-least_sum c = let e : c.value.result.shape ≡ binary_value c.args.op c.args.k c.args.m c.args.a.now.shape c.args.b.now.shape = search rules in binary-least_sum c.args.op c.args.k c.args.m c.args.a.now c.args.b.now c.value.result e

-- src/answers.rt:37:1
pub returns-clause-least_difference : goal.returns-clause-least_difference
returns-clause-least_difference c = let e : c.value.result.shape ≡ binary_value c.args.op c.args.k c.args.m c.args.a.now.shape c.args.b.now.shape = search rules in binary-least_difference c.args.op c.args.k c.args.m c.args.a.now c.args.b.now c.value.result e
