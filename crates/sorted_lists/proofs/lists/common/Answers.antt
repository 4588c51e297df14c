use Rattle.std.proofs.Common.{inl, inr, arith}
use Rattle.sorted_lists.proofs.Commons.{all_common}
use Rattle.sorted_lists.proofs.lists.common.Goals as goal

pub returns-then-at-ys : goal.returns-then-at-ys
returns-then-at-ys g c =
    all_common g.X.Keyed.key_of g.Y.Keyed.key_of g.R.Picks.picked c.args.xs.now c.loop-at.list.items c.args.ys.now c.loop-at.at.left c.loop-at.at.right c.loop-at.invariant.same (inr (let e = c.if-at-ys.true in omega arith))

pub returns : goal.returns
returns g c =
    all_common g.X.Keyed.key_of g.Y.Keyed.key_of g.R.Picks.picked c.args.xs.now c.loop-at.list.items c.args.ys.now c.loop-at.at.left c.loop-at.at.right c.loop-at.invariant.same (inl c.loop-at-test.false)
