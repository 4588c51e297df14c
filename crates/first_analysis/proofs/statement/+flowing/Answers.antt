use Rattle.std.proofs.Common.{arith, rules, refl, ◌∙◌, ◌≡◌, ◌<◌, ◌+◌, ◌-◌, [], ◌++◌, map, take, drop, length, append-nil, take_all, drop_of_length-le}
use Rattle.std.proofs.lemmas.List.{length-map}
use Rattle.first_program.specs.declared.tree.Stmt.{the_lemmas}
use Rattle.first_program.specs.Source.{Nothing, count}
use Rattle.first_program.specs.SourceViews.{tree_of}
use Rattle.first_analysis.specs.Contents.{HoldsReached}
use Rattle.first_analysis.specs.Tables.{Reached, choice, last_of, spot_of}
use Rattle.first_analysis.proofs.Counts.{count_if}
use Rattle.first_analysis.proofs.Flows.{weaken, below_self}
use Rattle.first_analysis.proofs.Steps.{ok_both, ladder_ends, ladder_goes_on, front_written, length_written, part_length, statements_counted, statements_flow, arms_counted, arms_flow}
use Rattle.first_analysis.proofs.statement.+flowing.Goals as goal

pub statements-loop-stmt-preserved : goal.statements-loop-stmt-preserved
statements-loop-stmt-preserved t c =
    let counted = statements_counted c.args.stmts.now c.loop-stmt.stmt-index c.stmt-item.result c.loop-stmt-test.true c.stmt-item.is in
    let within = c.loop-stmt.invariant.within in
    let small : count (tree_of c.stmt-item.result) < 4611686018427387904 = search (rules, counted, within) in
    let n = c.count_of.ensures small in
    let long : length c.statement.new.places ≡ c.count_of.result = part_length c.loop-stmt.at (c.loop-stmt.at + c.count_of.result) c.count_of.result c.loop-stmt.places c.statement.new.places refl (omega arith) c.statement.auto.places in
    record {
      within = rw (length_written c.loop-stmt.at (c.loop-stmt.at + c.count_of.result) c.count_of.result c.loop-stmt.places c.statement.new.places refl long (omega arith)) (omega arith);
      completes = λ rest after g.
          rw (front_written c.loop-stmt.at ((c.loop-stmt.at + c.count_of.result) - c.loop-stmt.at) c.loop-stmt.places c.statement.new.places (c.loop-stmt.at + c.count_of.result) rest (omega arith) (omega arith))
          (c.loop-stmt.invariant.completes (map spot_of c.statement.new.places ++ rest) after
          (statements_flow c.args.stmts.now c.loop-stmt.stmt-index c.stmt-item.result c.loop-stmt-test.true c.stmt-item.is (map spot_of c.statement.new.places) rest c.loop-stmt.row c.in_ok-row.row after
          (length-map c.statement.new.places spot_of ∙ long ∙ n) c.in_ok-row.ensures g));
    }

pub statements-returns : goal.statements-returns
statements-returns t c =
    let none : drop c.loop-stmt.stmt-index c.args.stmts.now ≡ [] = drop_of_length-le c.args.stmts.now c.loop-stmt-test.false in
    let all = c.loop-stmt.invariant.within in
    let whole : take c.loop-stmt.at (map spot_of c.loop-stmt.places) ≡ map spot_of c.loop-stmt.places =
    take_all c.loop-stmt.at (map spot_of c.loop-stmt.places) (let e = rw none at all in omega (arith, length-map c.loop-stmt.places spot_of)) in
    let f = c.loop-stmt.invariant.completes [] c.loop-stmt.row (rw none (below_self Reached HoldsReached c.loop-stmt.row)) in
    rw (append-nil, whole) at f

pub take_arms-loop-arm-init : goal.take_arms-loop-arm-init
take_arms-loop-arm-init t c = record { within = let r = c.requires in omega arith; completes = λ last rest right after f o r. weaken Reached HoldsReached (choice c.args.arms.now last) rest c.args.before right after f r }

pub take_arms-loop-arm-preserved : goal.take_arms-loop-arm-preserved
take_arms-loop-arm-preserved t c =
    let counted = arms_counted c.args.arms.now c.loop-arm.arm-index c.arm-item.result c.loop-arm-test.true c.arm-item.is Nothing in
    let within = c.loop-arm.invariant.within in
    let small : count (tree_of c.arm-item.result.body) < 4611686018427387904 = search (rules, counted, within) in
    let n = c.count_of.ensures small in
    let long : length c.take_arm.new.places ≡ 1 + c.count_of.result =
    part_length c.loop-arm.at (c.loop-arm.at + 1 + c.count_of.result) (1 + c.count_of.result) c.loop-arm.places c.take_arm.new.places (omega arith) (omega arith) c.take_arm.auto.places in
    record {
      within = rw (length_written c.loop-arm.at (c.loop-arm.at + 1 + c.count_of.result) (1 + c.count_of.result) c.loop-arm.places c.take_arm.new.places (omega arith) long (omega arith)) (omega arith);
      completes = λ last rest right after g o r.
          rw (front_written c.loop-arm.at ((c.loop-arm.at + 1 + c.count_of.result) - c.loop-arm.at) c.loop-arm.places c.take_arm.new.places (c.loop-arm.at + 1 + c.count_of.result) rest (omega arith) (omega arith))
          (c.loop-arm.invariant.completes last (map spot_of c.take_arm.new.places ++ rest) after after
          (arms_flow c.args.arms.now c.loop-arm.arm-index c.arm-item.result c.loop-arm-test.true c.arm-item.is last (map spot_of c.take_arm.new.places) rest c.take_arm.new.places c.loop-arm.state
          c.in_ok-taken.taken.left c.in_ok-taken.taken.other right after refl (omega arith) c.in_ok-taken.ensures g (record { each = λ env h. o.each env (c.in_ok-out.ensures.second env h) }) r)
          (record { each = λ env h. o.each env (c.in_ok-out.ensures.first env h) }) (below_self Reached HoldsReached after));
    }

pub take_arms-returns : goal.take_arms-returns
take_arms-returns t c = λ last rest right after g o r.
    let none : drop c.loop-arm.arm-index c.args.arms.now ≡ [] = drop_of_length-le c.args.arms.now c.loop-arm-test.false in
    let all = c.loop-arm.invariant.within in
    let whole : take c.loop-arm.at (map spot_of c.loop-arm.places) ≡ map spot_of c.loop-arm.places =
    take_all c.loop-arm.at (map spot_of c.loop-arm.places) (let e = rw none at all in omega (arith, length-map c.loop-arm.places spot_of)) in
    let f = c.loop-arm.invariant.completes last rest right after (rw none g) o r in
    rw whole at f

pub statement-returns-in-None : goal.statement-returns-in-None
statement-returns-in-None t c =
    let e = count_if c.args.stmt.now c.in-If.arms c.in-If.otherwise c.in-If.is in
    let n : count (last_of c.in-If.otherwise) ≡ 0 = rw c.in-None.is refl in
    let small : count (choice c.in-If.arms Nothing) < 4611686018427387904 = search (rules, e) in
    let k = (rw c.as_slice.ensures at c.count_arms.ensures) small in
    let f = rw c.as_slice-in-If.ensures at c.in_ok-ladder-in-If.ensures in
    ok_both c.join.result _ _ _ (λ after o s. ladder_ends c.args.stmt.now c.in-If.arms c.in-If.otherwise c.take_arms.new.places c.split_at_mut-tests.result.1.now c.args.before
    c.in_ok-ladder-in-If.ladder.state c.in_ok-ladder-in-If.ladder.out after c.in-If.is c.in-None.is (omega arith) f (record { each = o }) (record { each = s })) c.join.ensures.first c.join.ensures.second

pub statement-returns-in_ok-right-in-Some : goal.statement-returns-in_ok-right-in-Some
statement-returns-in_ok-right-in-Some t c =
    let f = rw c.as_slice-in-If.ensures at c.in_ok-ladder-in-If.ensures in
    let g = rw c.get.ensures at c.in_ok-right-in-Some.ensures in
    ok_both c.join-in-Some.result _ _ _ (λ after o r. ladder_goes_on c.args.stmt.now c.in-If.arms c.in-If.otherwise c.in-Some.last c.take_arms.new.places c.statement.new.places c.args.before
    c.in_ok-ladder-in-If.ladder.state c.in_ok-ladder-in-If.ladder.out c.in_ok-right-in-Some.right after c.in-If.is c.in-Some.is f g (record { each = o }) (record { each = r }))
    c.join-in-Some.ensures.first c.join-in-Some.ensures.second

pub statement-statement-requires : goal.statement-statement-requires
statement-statement-requires t c =
    let e = count_if c.args.stmt.now c.in-If.arms c.in-If.otherwise c.in-If.is in
    let small : count (choice c.in-If.arms Nothing) < 4611686018427387904 = search (rules, e) in
    let k = (rw c.as_slice.ensures at c.count_arms.ensures) small in
    let n : count (last_of c.in-If.otherwise) ≡ count (tree_of c.in-Some.last) = rw c.in-Some.is refl in
    (search (rules, the_lemmas), rw c.get.ensures (omega arith))

pub statement-take_arms-requires : goal.statement-take_arms-requires
statement-take_arms-requires t c =
    let e = count_if c.args.stmt.now c.in-If.arms c.in-If.otherwise c.in-If.is in
    let small : count (choice c.in-If.arms Nothing) < 4611686018427387904 = search (rules, e) in
    let k = (rw c.as_slice.ensures at c.count_arms.ensures) small in
    (search (rules, the_lemmas), rw c.as_slice-in-If.ensures (omega arith))
