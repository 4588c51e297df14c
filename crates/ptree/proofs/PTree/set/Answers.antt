use Rattle.std.proofs.Common.{◌∙◌, ap, sym}
use Rattle.ptree.specs.Node.{root_entries}
use Rattle.ptree.proofs.Maps.{get-set}
use Rattle.ptree.proofs.Trees.{tree_map}
use Rattle.ptree.proofs.PTree.set.Goals as goal

pub returns-in_ok-set-in-Some-clause-lookup : goal.returns-in_ok-set-in-Some-clause-lookup
returns-in_ok-set-in-Some-clause-lookup g c =
    let same = ap root_entries (sym c.in-Some.is) ∙ c.self.view_is in
    λ k. rw (c.in_ok-set-in-Some.ensures.entries, same) (get-set _ c.args.key c.args.value k)

pub returns-in_ok-set-in-Some-clause-map : goal.returns-in_ok-set-in-Some-clause-map
returns-in_ok-set-in-Some-clause-map g c = tree_map _ c.in_ok-set-in-Some.ensures.tree
