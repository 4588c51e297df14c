-- A key below the middle stands on the left alone, another one on the right alone.
use Rattle.ptree.proofs.Sides.{get-left, get-right}
use Rattle.ptree.proofs.node.Node.+get.Goals as goal

pub returns-then-key-middle : goal.returns-then-key-middle
returns-then-key-middle g t c =
    let tree = rw c.in-Fork.is at c.requires in
    let side = get-left _ _ _ _ tree.0.apart c.if-key-middle.true in
    rw (c.in-Fork.is, side) (cc)

pub returns-else-key-middle : goal.returns-else-key-middle
returns-else-key-middle g t c =
    let tree = rw c.in-Fork.is at c.requires in
    let side = get-right _ _ _ _ tree.0.apart c.if-key-middle.false in
    rw (c.in-Fork.is, side) (cc)
