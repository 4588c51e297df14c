-- A key that agrees with a fork above its bit goes to the side of the key.
use Rattle.std.proofs.Common.{◌∙◌, sym, subst}
use Rattle.ptree.specs.Node.{IsTree}
use Rattle.ptree.proofs.Bits.{fork_foreign}
use Rattle.ptree.proofs.Forks.{IsFork-set_left, IsFork-set_right, fork_agrees}
use Rattle.ptree.proofs.Sides.{set-left, set-right}
use Rattle.ptree.proofs.node.Node.+set.Goals as goal

pub beside-requires-then-key-bit-clause-foreign : goal.beside-requires-then-key-bit-clause-foreign
beside-requires-then-key-bit-clause-foreign g t c =
    let whole = sym c.as_ref.ensures ∙ c.in-Fork.is in
    let tree = subst IsTree whole c.requires in
    rw whole (fork_foreign _ _ _ _ (fork_agrees _ _ _ _ tree.0) c.if-key-bit.true)

pub with_left-requires-clause-fork : goal.with_left-requires-clause-fork
with_left-requires-clause-fork g t c =
    let tree = subst IsTree (sym c.as_ref.ensures ∙ c.in-Fork.is) c.requires in
    rw c.in_ok-left-in-Fork.ensures.entries
    (IsFork-set_left _ _ _ _ tree.0 c.args.key c.args.value c.if-key-middle.true c.if-key-bit.false)

pub with_right-requires-clause-fork : goal.with_right-requires-clause-fork
with_right-requires-clause-fork g t c =
    let tree = subst IsTree (sym c.as_ref.ensures ∙ c.in-Fork.is) c.requires in
    rw c.in_ok-right-in-Fork.ensures.entries
    (IsFork-set_right _ _ _ _ tree.0 c.args.key c.args.value c.if-key-middle.false c.if-key-bit.false)

pub returns-in_ok-left-in-Fork-clause-entries : goal.returns-in_ok-left-in-Fork-clause-entries
returns-in_ok-left-in-Fork-clause-entries g t c =
    let whole = sym c.as_ref.ensures ∙ c.in-Fork.is in
    let tree = subst IsTree whole c.requires in
    let side = set-left _ _ c.args.value _ _ tree.0.apart c.if-key-middle.true in
    rw (whole, side) (rw c.in_ok-left-in-Fork.ensures.entries at c.with_left.ensures.entries)

pub returns-in_ok-right-in-Fork-clause-entries : goal.returns-in_ok-right-in-Fork-clause-entries
returns-in_ok-right-in-Fork-clause-entries g t c =
    let whole = sym c.as_ref.ensures ∙ c.in-Fork.is in
    let tree = subst IsTree whole c.requires in
    let side = set-right _ _ c.args.value _ _ tree.0.apart c.if-key-middle.false in
    rw (whole, side) (rw c.in_ok-right-in-Fork.ensures.entries at c.with_right.ensures.entries)
