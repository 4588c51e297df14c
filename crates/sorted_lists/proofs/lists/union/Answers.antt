use Rattle.std.proofs.Common.{◌≤◌, ◌⊎◌, length, inl, inr, arith}
use Rattle.sorted_lists.proofs.Merging.{rests}
use Rattle.sorted_lists.proofs.lists.union.Goals.{else-loop-at-test, then-loop-at-test+then-at-ys}
use Rattle.sorted_lists.proofs.lists.union.Goals as goal

pub returns : goal.returns
returns g c =
    let read : (length c.args.xs.now ≤ c.loop-at.at.left) ⊎ (length c.args.ys.now ≤ c.loop-at.at.right) =
    elim c.loop-at-test.branch [
      | else-loop-at-test w ↦ inl w.loop-at-test.false
      | then-loop-at-test+then-at-ys w ↦ inr (let e = w.if-at-ys.true in omega arith)
    ] in
    rests g.T.Keyed.key_of (g.R.Unites.united c.args.rule.now) c.args.xs.now c.args.ys.now c.loop-at.list.items c.push_rest.new.list.items c.push_rest-2.new.list.items c.loop-at.at.left c.loop-at.at.right
    c.loop-at.invariant.same c.in_ok-push_rest.ensures c.in_ok-push_rest-2.ensures read
