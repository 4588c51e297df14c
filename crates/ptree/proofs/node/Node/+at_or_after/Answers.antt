-- A key that is not below the middle has all keys of the left side below it. For another one the left side is asked first.
use Rattle.ptree.specs.Node.{entries}
use Rattle.ptree.proofs.Sides.{at_or_after-right, at_or_after-append}
use Rattle.ptree.proofs.node.Node.+at_or_after.Goals as goal

pub returns-then-middle-key : goal.returns-then-middle-key
returns-then-middle-key g t c =
    let tree = rw c.in-Fork.is at c.requires in
    let side = at_or_after-right _ _ _ _ tree.0.apart c.if-middle-key.true in
    rw (c.in-Fork.is, side) (cc)

pub returns-in-Some : goal.returns-in-Some
returns-in-Some g t c =
    let both = at_or_after-append c.args.key (entries c.in-Fork.left.value) (entries c.in-Fork.right.value) in
    let left = rw c.deref-in-Fork.ensures at c.in-Some.ensures in
    rw (c.in-Fork.is, both, ← left)

pub returns-in-None : goal.returns-in-None
returns-in-None g t c =
    let both = at_or_after-append c.args.key (entries c.in-Fork.left.value) (entries c.in-Fork.right.value) in
    let left = rw c.deref-in-Fork.ensures at c.in-None.ensures in
    rw (c.in-Fork.is, both, ← left) (cc)
