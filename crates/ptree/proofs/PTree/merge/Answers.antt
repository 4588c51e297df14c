use Rattle.ptree.proofs.Merges.{get-merged}
use Rattle.ptree.proofs.Trees.{root_map}
use Rattle.ptree.proofs.PTree.merge.Goals as goal

pub returns-clause-lookup : goal.returns-clause-lookup
returns-clause-lookup g c = λ k.
    rw (c.in_ok-merge.ensures.entries, c.part.ensures.entries, c.part-2.ensures.entries)
    (get-merged (g.F.Merger.merged c.args.merger.now) _ _ k c.part.ensures.map.ascending c.part-2.ensures.map.ascending)

pub returns-clause-map : goal.returns-clause-map
returns-clause-map g c = root_map c.in_ok-merge.field-0 c.in_ok-merge.ensures.tree
