-- A key below the middle has all keys of the right side above it. For another one the right side is asked first.
use Rattle.ptree.specs.Node.{entries}
use Rattle.ptree.proofs.Sides.{at_or_before-left, at_or_before-append}
use Rattle.ptree.proofs.node.Node.+at_or_before.Goals as goal

pub returns-then-key-middle : goal.returns-then-key-middle
returns-then-key-middle g t c =
    let tree = rw c.in-Fork.is at c.requires in
    let side = at_or_before-left _ _ _ _ tree.0.apart c.if-key-middle.true in
    rw (c.in-Fork.is, side) (cc)

pub returns-in-Some : goal.returns-in-Some
returns-in-Some g t c =
    let both = at_or_before-append c.args.key (entries c.in-Fork.left.value) (entries c.in-Fork.right.value) in
    let right = rw c.deref-in-Fork.ensures at c.in-Some.ensures in
    rw (c.in-Fork.is, both, ← right)

pub returns-in-None : goal.returns-in-None
returns-in-None g t c =
    let both = at_or_before-append c.args.key (entries c.in-Fork.left.value) (entries c.in-Fork.right.value) in
    let right = rw c.deref-in-Fork.ensures at c.in-None.ensures in
    rw (c.in-Fork.is, both, ← right) (cc)
