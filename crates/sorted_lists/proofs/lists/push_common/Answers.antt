use Rattle.std.proofs.Common.{sym, ◌∙◌}
use Rattle.sorted_lists.proofs.Commons.{skip_right, skip_left, skip_both, take_both}
use Rattle.sorted_lists.proofs.lists.push_common.Goals as goal

pub returns-then-key-clause-same : goal.returns-then-key-clause-same
returns-then-key-clause-same g c =
    skip_right g.X.Keyed.key_of g.Y.Keyed.key_of g.R.Picks.picked c.args.xs.now c.args.ys.now c.args.at.left c.args.at.right c.index-xs-at.result c.index-ys-at.result
    c.requires.left c.index-xs-at.is c.requires.right c.index-ys-at.is c.args.list.now.items (rw (← c.key.ensures, ← c.key-2.ensures) c.if-key.true)

pub returns-then-key-2-clause-same : goal.returns-then-key-2-clause-same
returns-then-key-2-clause-same g c =
    skip_left g.X.Keyed.key_of g.Y.Keyed.key_of g.R.Picks.picked c.args.xs.now c.args.ys.now c.args.at.left c.args.at.right c.index-xs-at.result c.index-ys-at.result
    c.requires.left c.index-xs-at.is c.requires.right c.index-ys-at.is c.args.list.now.items (rw (← c.key-3.ensures, ← c.key-4.ensures) c.if-key-2.true)

pub returns-in-None-clause-same : goal.returns-in-None-clause-same
returns-in-None-clause-same g c =
    skip_both g.X.Keyed.key_of g.Y.Keyed.key_of g.R.Picks.picked c.args.xs.now c.args.ys.now c.args.at.left c.args.at.right c.index-xs-at.result c.index-ys-at.result
    c.requires.left c.index-xs-at.is c.requires.right c.index-ys-at.is c.args.list.now.items
    (rw (← c.key.ensures, ← c.key-2.ensures) c.if-key.false) (rw (← c.key-3.ensures, ← c.key-4.ensures) c.if-key-2.false) (sym c.pick.ensures ∙ c.in-None.is)

pub returns-in_ok-push-in-Some-clause-same : goal.returns-in_ok-push-in-Some-clause-same
returns-in_ok-push-in-Some-clause-same g c =
    take_both g.X.Keyed.key_of g.Y.Keyed.key_of g.R.Picks.picked c.args.xs.now c.args.ys.now c.args.at.left c.args.at.right c.index-xs-at.result c.index-ys-at.result
    c.requires.left c.index-xs-at.is c.requires.right c.index-ys-at.is c.args.list.now.items c.push.new.self.items c.in-Some.both
    (rw (← c.key.ensures, ← c.key-2.ensures) c.if-key.false) (rw (← c.key-3.ensures, ← c.key-4.ensures) c.if-key-2.false) (sym c.pick.ensures ∙ c.in-Some.is) c.in_ok-push-in-Some.ensures.ok
