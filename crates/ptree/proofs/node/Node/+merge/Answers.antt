use Rattle.ptree.proofs.Merges.{merged_fork, merged-append}
use Rattle.ptree.proofs.node.Node.+merge.Goals as goal

pub fork_of-requires-clause-fork : goal.fork_of-requires-clause-fork
fork_of-requires-clause-fork g t c =
    let f = g.F.Merger.merged c.args.f.now in
    rw (c.in_ok-low-in-Block.ensures.entries, c.in_ok-high-in-Block.ensures.entries)
    (merged_fork f _ _ _ _ _ _ c.sides.ensures.fork c.sides-in-Block.ensures.fork)

pub returns-in_ok-high-in-Block-clause-entries : goal.returns-in_ok-high-in-Block-clause-entries
returns-in_ok-high-in-Block-clause-entries g t c =
    let f = g.F.Merger.merged c.args.f.now in
    let sides = merged-append f _ _ _ _ _ c.sides.ensures.fork.apart c.sides-in-Block.ensures.fork.apart in
    rw (c.in-Some-Some.is-0, c.in-Some-Some.is-1, c.sides.ensures.entries, c.sides-in-Block.ensures.entries, sides)
    (rw (c.in_ok-low-in-Block.ensures.entries, c.in_ok-high-in-Block.ensures.entries) at c.fork_of.ensures.entries)
