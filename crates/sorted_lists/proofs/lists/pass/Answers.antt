use Rattle.sorted_lists.proofs.Merging.{passed, missing, lying, not_lying}
use Rattle.sorted_lists.proofs.lists.pass.Goals as goal

pub returns-then-key-clause-some : goal.returns-then-key-clause-some
returns-then-key-clause-some g c =
    passed g.X.Keyed.key_of g.Y.Keyed.key_of g.R.Compares.lies_in c.args.xs.now c.args.ys.now c.args.at.left c.args.at.right c.index-xs-at.result c.index-ys-at.result
    c.requires.left c.index-xs-at.is c.requires.right c.index-ys-at.is (rw (← c.key.ensures, ← c.key-2.ensures) c.if-key.true)

pub returns-then-key-2-clause-none : goal.returns-then-key-2-clause-none
returns-then-key-2-clause-none g c =
    missing g.X.Keyed.key_of g.Y.Keyed.key_of g.R.Compares.lies_in c.args.xs.now c.args.ys.now c.args.at.left c.args.at.right c.index-xs-at.result c.index-ys-at.result
    c.requires.left c.index-xs-at.is c.requires.right c.index-ys-at.is (rw (← c.key-3.ensures, ← c.key-4.ensures) c.if-key-2.true)

pub returns-then-is_in-clause-some : goal.returns-then-is_in-clause-some
returns-then-is_in-clause-some g c =
    lying g.X.Keyed.key_of g.Y.Keyed.key_of g.R.Compares.lies_in c.args.xs.now c.args.ys.now c.args.at.left c.args.at.right c.index-xs-at.result c.index-ys-at.result
    c.requires.left c.index-xs-at.is c.requires.right c.index-ys-at.is (rw (← c.key.ensures, ← c.key-2.ensures) c.if-key.false) (rw (← c.key-3.ensures, ← c.key-4.ensures) c.if-key-2.false) (rw (← c.is_in.ensures) c.if-is_in.true)

pub returns-clause-none : goal.returns-clause-none
returns-clause-none g c =
    not_lying g.X.Keyed.key_of g.Y.Keyed.key_of g.R.Compares.lies_in c.args.xs.now c.args.ys.now c.args.at.left c.args.at.right c.index-xs-at.result c.index-ys-at.result
    c.requires.left c.index-xs-at.is c.requires.right c.index-ys-at.is (rw (← c.key.ensures, ← c.key-2.ensures) c.if-key.false) (rw (← c.key-3.ensures, ← c.key-4.ensures) c.if-key-2.false) (rw (← c.is_in.ensures) c.if-is_in.false)
