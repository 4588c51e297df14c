-- A side that loses a key still belongs to the fork.
use Rattle.std.proofs.Common.{◌∙◌, sym, subst}
use Rattle.ptree.specs.Node.{IsTree}
use Rattle.ptree.proofs.Forks.{IsFork-remove_left, IsFork-remove_right}
use Rattle.ptree.proofs.Sides.{remove-left, remove-right}
use Rattle.ptree.proofs.node.Node.+remove.Goals as goal

pub beside_right-requires-clause-fork : goal.beside_right-requires-clause-fork
beside_right-requires-clause-fork g t c =
    let tree = subst IsTree (sym c.as_ref.ensures ∙ c.in-Fork.is) c.requires in
    rw c.in_ok-left-in-Fork.ensures.entries (IsFork-remove_left _ _ _ _ tree.0 c.args.key)

pub beside_left-requires-clause-fork : goal.beside_left-requires-clause-fork
beside_left-requires-clause-fork g t c =
    let tree = subst IsTree (sym c.as_ref.ensures ∙ c.in-Fork.is) c.requires in
    rw c.in_ok-right-in-Fork.ensures.entries (IsFork-remove_right _ _ _ _ tree.0 c.args.key)

pub returns-in_ok-left-in-Fork-clause-entries : goal.returns-in_ok-left-in-Fork-clause-entries
returns-in_ok-left-in-Fork-clause-entries g t c =
    let whole = sym c.as_ref.ensures ∙ c.in-Fork.is in
    let tree = subst IsTree whole c.requires in
    let side = remove-left _ _ _ _ tree.0.apart c.if-key-middle.true in
    rw (whole, side) (rw c.in_ok-left-in-Fork.ensures.entries at c.beside_right.ensures.entries)

pub returns-in_ok-right-in-Fork-clause-entries : goal.returns-in_ok-right-in-Fork-clause-entries
returns-in_ok-right-in-Fork-clause-entries g t c =
    let whole = sym c.as_ref.ensures ∙ c.in-Fork.is in
    let tree = subst IsTree whole c.requires in
    let side = remove-right _ _ _ _ tree.0.apart c.if-key-middle.false in
    rw (whole, side) (rw c.in_ok-right-in-Fork.ensures.entries at c.beside_left.ensures.entries)
