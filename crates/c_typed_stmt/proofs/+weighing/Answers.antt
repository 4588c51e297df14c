use Rattle.std.proofs.Common.{◌≡◌, ◌+◌, ◌∙◌, ap, None, arith}
use Rattle.c_typed_stmt.specs.Weights.{counted, weight_of_stmt, weight_of_arm, weight_of_arms}
use Rattle.c_typed_stmt.proofs.Counting.{summed_step, weight_if}
use Rattle.c_typed_stmt.proofs.+weighing.Goals as goal

pub weights::of_stmts-loop-each-preserved : goal.weights::of_stmts-loop-each-preserved
weights::of_stmts-loop-each-preserved g t c =
    summed_step (weight_of_stmt (g.W.Counter.of_expr c.args.counter.now) (g.W.Counter.of_init c.args.counter.now) (g.W.Counter.of_pred c.args.counter.now))
    c.args.all.now c.loop-each.each-index c.loop-each.total c.weight.result c.with-total.result c.each-item.result c.loop-each-test.true c.each-item.is
    c.loop-each.invariant c.weight.ensures c.with-total.ensures

pub weights::of_arms-loop-each-preserved : goal.weights::of_arms-loop-each-preserved
weights::of_arms-loop-each-preserved g t c =
    summed_step (weight_of_arm (g.W.Counter.of_expr c.args.counter.now) (g.W.Counter.of_init c.args.counter.now) (g.W.Counter.of_pred c.args.counter.now))
    c.args.all.now c.loop-each.each-index c.loop-each.total c.of_arm.result c.with-total.result c.each-item.result c.loop-each-test.true c.each-item.is
    c.loop-each.invariant c.of_arm.ensures c.with-total.ensures

pub stmt::TStmt::weight-returns-in-None : goal.stmt::TStmt::weight-returns-in-None
stmt::TStmt::weight-returns-in-None g t c small =
    let e = g.W.Counter.of_expr c.args.counter.now in let i = g.W.Counter.of_init c.args.counter.now in let p = g.W.Counter.of_pred c.args.counter.now in
    let own : weight_of_stmt e i p c.args.self.now ≡ weight_of_arms e i p c.in-If.arms + counted (weight_of_stmt e i p) None =
    ap (weight_of_stmt e i p) c.in-If.is ∙ weight_if e i p c.in-If.arms c.in-If.otherwise ∙ ap (λ o. weight_of_arms e i p c.in-If.arms + counted (weight_of_stmt e i p) o) c.in-None.is in
    let arms : weight_of_arms e i p c.as_slice.result.now ≡ weight_of_arms e i p c.in-If.arms = ap (weight_of_arms e i p) c.as_slice.ensures in
    let found = c.of_arms-tested.ensures (omega arith) in
    omega arith

pub stmt::TStmt::weight-returns-in-Some : goal.stmt::TStmt::weight-returns-in-Some
stmt::TStmt::weight-returns-in-Some g t c small =
    let e = g.W.Counter.of_expr c.args.counter.now in let i = g.W.Counter.of_init c.args.counter.now in let p = g.W.Counter.of_pred c.args.counter.now in
    let own : weight_of_stmt e i p c.args.self.now ≡ weight_of_arms e i p c.in-If.arms + weight_of_stmt e i p c.in-Some.stmt =
    ap (weight_of_stmt e i p) c.in-If.is ∙ weight_if e i p c.in-If.arms c.in-If.otherwise ∙ ap (λ o. weight_of_arms e i p c.in-If.arms + counted (weight_of_stmt e i p) o) c.in-Some.is in
    let arms : weight_of_arms e i p c.as_slice.result.now ≡ weight_of_arms e i p c.in-If.arms = ap (weight_of_arms e i p) c.as_slice.ensures in
    let stmt : weight_of_stmt e i p c.get.result.now ≡ weight_of_stmt e i p c.in-Some.stmt = ap (weight_of_stmt e i p) c.get.ensures in
    let first = c.of_arms-tested.ensures (omega arith) in
    let last = c.weight-in-Some.ensures (omega arith) in
    let both = c.with.ensures (omega arith) in
    omega arith
