use Rattle.ptree.proofs.Trees.{root_map}
use Rattle.ptree.proofs.PTree.part.Goals as goal

pub returns-in-Some-clause-map : goal.returns-in-Some-clause-map
returns-in-Some-clause-map g c = rw (← c.self.view_is) (root_map c.self.inside.root c.self.invariant)
