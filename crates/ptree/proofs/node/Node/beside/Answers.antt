-- The key stands in front of all keys of the tree, or behind them.
use Rattle.ptree.specs.Node.{entries}
use Rattle.ptree.proofs.Bits.{foreign_below, foreign_above}
use Rattle.ptree.proofs.Sides.{set_front, set_back}
use Rattle.ptree.proofs.node.Node.beside.Goals as goal

pub returns-in_ok-clone-clause-entries : goal.returns-in_ok-clone-clause-entries
returns-in_ok-clone-clause-entries g c =
    let all = entries c.args.this.now.value in
    let front = set_front c.args.key c.args.value all (foreign_below c.args.label c.args.key all c.requires.foreign c.if-key-label.true) in
    rw front (rw (c.in_ok-leaf.ensures, c.in_ok-clone.ensures.cases) at c.join.ensures.entries)

pub returns-in_ok-clone-2-clause-entries : goal.returns-in_ok-clone-2-clause-entries
returns-in_ok-clone-2-clause-entries g c =
    let all = entries c.args.this.now.value in
    let back = set_back c.args.key c.args.value all (foreign_above c.args.label c.args.key all c.requires.foreign c.if-key-label.false) in
    rw back (rw (c.in_ok-leaf.ensures, c.in_ok-clone-2.ensures.cases) at c.join-else-key-label.ensures.entries)
