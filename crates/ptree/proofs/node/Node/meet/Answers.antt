-- The wider of two trees that agree is the fork of the block.
use Rattle.std.proofs.Common.{arith, refl, sym}
use Rattle.ptree.proofs.Tops.{meets_block}
use Rattle.ptree.proofs.node.Node.meet.Goals as goal

pub returns-then-first-second : goal.returns-then-first-second
returns-then-first-second g c =
    let a = c.args.a.now in
    let b = c.args.b.now in
    let agree = rw (c.label.ensures, c.label-2.ensures) at c.if-differ_above.ensures in
    let widest = rw (c.top-first.ensures.value, c.top-second.ensures.value) at c.max-bits.ensures in
    let less = rw (c.top-first.ensures.value, c.top-second.ensures.value) at c.if-first-second.true in
    rw c.label-then-first-second.ensures (meets_block a b b c.max-bits.result c.requires.second (omega arith) c.if-bits-eq0.false (sym widest) agree refl)

pub returns : goal.returns
returns g c =
    let a = c.args.a.now in
    let b = c.args.b.now in
    let agree = rw (c.label.ensures, c.label-2.ensures) at c.if-differ_above.ensures in
    let widest = rw (c.top-first.ensures.value, c.top-second.ensures.value) at c.max-bits.ensures in
    let less = rw (c.top-first.ensures.value, c.top-second.ensures.value) at c.if-first-second.false in
    rw c.label-3.ensures (meets_block a b a c.max-bits.result c.requires.first (omega arith) c.if-bits-eq0.false (sym widest) refl (sym agree))
