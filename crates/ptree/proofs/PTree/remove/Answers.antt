use Rattle.std.proofs.Common.{◌∙◌, ap, sym}
use Rattle.ptree.specs.Node.{root_entries}
use Rattle.ptree.proofs.Maps.{get-remove}
use Rattle.ptree.proofs.Trees.{root_map}
use Rattle.ptree.proofs.PTree.remove.Goals as goal

pub returns-in_ok-remove-in-Some-clause-lookup : goal.returns-in_ok-remove-in-Some-clause-lookup
returns-in_ok-remove-in-Some-clause-lookup g c =
    let all = rw c.self.view_is at (root_map c.self.inside.root c.self.invariant) in
    let same = ap root_entries (sym c.in-Some.is) ∙ c.self.view_is in
    λ k. rw (c.in_ok-remove-in-Some.ensures.entries, same) (get-remove _ c.args.key k all.ascending)

pub returns-in_ok-remove-in-Some-clause-map : goal.returns-in_ok-remove-in-Some-clause-map
returns-in_ok-remove-in-Some-clause-map g c = root_map c.in_ok-remove-in-Some.field-0 c.in_ok-remove-in-Some.ensures.tree
