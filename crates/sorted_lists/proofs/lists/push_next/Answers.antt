use Rattle.sorted_lists.proofs.Merging.{step_left, step_right, step_both}
use Rattle.sorted_lists.proofs.lists.push_next.Goals as goal

pub returns-then-key-clause-same : goal.returns-then-key-clause-same
returns-then-key-clause-same g c =
    step_left g.T.Keyed.key_of (g.R.Unites.united c.args.rule.now) c.args.xs.now c.args.ys.now c.args.at.left c.args.at.right c.index-xs-at.result c.index-ys-at.result
    c.requires.left c.index-xs-at.is c.requires.right c.index-ys-at.is c.args.list.now.items c.push.new.self.items
    (rw (← c.key.ensures, ← c.key-2.ensures) c.if-key.true) (rw (← c.copy.ensures) c.in_ok-push.ensures.ok)

pub returns-then-key-2-clause-same : goal.returns-then-key-2-clause-same
returns-then-key-2-clause-same g c =
    step_right g.T.Keyed.key_of (g.R.Unites.united c.args.rule.now) c.args.xs.now c.args.ys.now c.args.at.left c.args.at.right c.index-xs-at.result c.index-ys-at.result
    c.requires.left c.index-xs-at.is c.requires.right c.index-ys-at.is c.args.list.now.items c.push-then-key-2.new.self.items
    (rw (← c.key-3.ensures, ← c.key-4.ensures) c.if-key-2.true) (rw (← c.copy-then-key-2.ensures) c.in_ok-push-2.ensures.ok)

pub returns-clause-same : goal.returns-clause-same
returns-clause-same g c =
    step_both g.T.Keyed.key_of (g.R.Unites.united c.args.rule.now) c.args.xs.now c.args.ys.now c.args.at.left c.args.at.right c.index-xs-at.result c.index-ys-at.result
    c.requires.left c.index-xs-at.is c.requires.right c.index-ys-at.is c.args.list.now.items c.push-2.new.self.items
    (rw (← c.key.ensures, ← c.key-2.ensures) c.if-key.false) (rw (← c.key-3.ensures, ← c.key-4.ensures) c.if-key-2.false) (rw (← c.unite.ensures) c.in_ok-push-3.ensures.ok)
