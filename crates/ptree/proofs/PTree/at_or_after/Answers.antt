use Rattle.std.proofs.Common.{◌∙◌, ap, sym}
use Rattle.ptree.specs.Node.{entries, root_entries}
use Rattle.ptree.proofs.Maps.{at_or_after-least}
use Rattle.ptree.proofs.Trees.{root_map}
use Rattle.ptree.proofs.PTree.at_or_after.Goals as goal

pub returns-in-Some-clause-least : goal.returns-in-Some-clause-least
returns-in-Some-clause-least g c =
    let all = rw c.self.view_is at (root_map c.self.inside.root c.self.invariant) in
    let same = ap entries c.deref.ensures ∙ ap root_entries (sym c.in-Some.is) ∙ c.self.view_is in
    rw (c.at_or_after.ensures, same) (at_or_after-least _ c.args.key all.ascending)

pub returns-in-Some-clause-map : goal.returns-in-Some-clause-map
returns-in-Some-clause-map g c = rw (← c.self.view_is) (root_map c.self.inside.root c.self.invariant)
