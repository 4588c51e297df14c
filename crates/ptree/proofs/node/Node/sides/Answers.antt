-- A tree that is no fork at the bit lies on one side of the middle.
use Rattle.std.proofs.Common.{arith, subst}
use Rattle.ptree.specs.Node.{IsTree}
use Rattle.ptree.proofs.Tops.{left_top, right_top, fork_low, fork_high}
use Rattle.ptree.proofs.node.Node.sides.Goals as goal

pub returns-then-own-bit-clause-low_top : goal.returns-then-own-bit-clause-low_top
returns-then-own-bit-clause-low_top g c =
    let tree = subst IsTree c.in-Fork.is c.requires.tree in
    let low = left_top _ _ _ _ tree.0 tree.1 in
    rw (c.deref.ensures, ← c.if-own-bit.true) low

pub returns-then-own-bit-clause-high_top : goal.returns-then-own-bit-clause-high_top
returns-then-own-bit-clause-high_top g c =
    let tree = subst IsTree c.in-Fork.is c.requires.tree in
    let high = right_top _ _ _ _ tree.0 tree.2 in
    rw (c.deref-then-own-bit.ensures, ← c.if-own-bit.true) high

pub returns-then-label-middle-clause-fork : goal.returns-then-label-middle-clause-fork
returns-then-label-middle-clause-fork g c =
    let wide = rw c.in-Fork.is at c.requires.block.no_wider in
    fork_low _ _ _ c.requires.tree c.requires.block (rw c.in-Fork.is (omega arith)) (rw c.in-Fork.is c.if-label-middle.true)

pub returns-else-label-middle-clause-fork : goal.returns-else-label-middle-clause-fork
returns-else-label-middle-clause-fork g c =
    let wide = rw c.in-Fork.is at c.requires.block.no_wider in
    fork_high _ _ _ c.requires.tree c.requires.block (rw c.in-Fork.is (omega arith)) (rw c.in-Fork.is c.if-label-middle.false)
