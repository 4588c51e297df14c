use Rattle.std.proofs.Common.{◌≤◌, length, sym, ◌∙◌, arith}
use Rattle.sorted_lists.proofs.Merging.{none_left, all_read}
use Rattle.sorted_lists.proofs.lists.is_all_in.Goals as goal

pub returns-then-at-ys : goal.returns-then-at-ys
returns-then-at-ys g c =
    let h : length c.args.ys.now ≤ c.loop-at.at.right = (let e = c.if-at-ys.true in omega arith) in
    sym (none_left g.X.Keyed.key_of g.Y.Keyed.key_of g.R.Compares.lies_in c.args.xs.now c.args.ys.now c.loop-at.at.left c.loop-at.at.right c.loop-at-test.true h) ∙ c.loop-at.invariant.same

pub returns : goal.returns
returns g c = sym (all_read g.X.Keyed.key_of g.Y.Keyed.key_of g.R.Compares.lies_in c.args.xs.now c.args.ys.now c.loop-at.at.left c.loop-at.at.right c.loop-at-test.false) ∙ c.loop-at.invariant.same
