use Rattle.std.proofs.Common.{subst, []}
use Rattle.ptree.specs.Node.{IsTree}
use Rattle.ptree.proofs.Merges.{merged_fork, merged-append, empty_fork, no_split}
use Rattle.ptree.proofs.node.Node.+merge_first.Goals as goal

pub fork_of-requires-clause-fork : goal.fork_of-requires-clause-fork
fork_of-requires-clause-fork g t c =
    let tree = subst IsTree c.in-Fork.is c.requires in
    let f = g.F.Merger.merged c.args.f.now in
    rw (c.in_ok-low-in-Fork.ensures.entries, c.deref.ensures, c.in_ok-high-in-Fork.ensures.entries, c.deref-in-Fork.ensures)
    (merged_fork f _ _ _ _ [] [] tree.0 (empty_fork _ _ _ _ tree.0))

pub returns-in_ok-high-in-Fork-clause-entries : goal.returns-in_ok-high-in-Fork-clause-entries
returns-in_ok-high-in-Fork-clause-entries g t c =
    let tree = subst IsTree c.in-Fork.is c.requires in
    let f = g.F.Merger.merged c.args.f.now in
    let sides = merged-append f _ _ _ [] [] tree.0.apart (no_split _) in
    rw (c.in-Fork.is, sides)
    (rw (c.in_ok-low-in-Fork.ensures.entries, c.deref.ensures, c.in_ok-high-in-Fork.ensures.entries, c.deref-in-Fork.ensures) at c.fork_of.ensures.entries)
