-- The entries of a tree are a map, and a node has some.
use Rattle.std.specs.Prelude.{Option, None, Some}
use Rattle.std.specs.declared.rc.Rc.{Rc}
use Rattle.std.specs.declared.alloc.Global.{Global}
use Rattle.ptree.specs.declared.node.Node.{Node}
use Rattle.ptree.specs.declared.node.Node.TheVariants.{Leaf, Fork'}
use Rattle.ptree.specs.Entries.{IsMap}
use Rattle.ptree.specs.Node.{IsTree, IsRoot, entries, root_entries}
use Rattle.ptree.proofs.Maps.{IsMap-append}

module _ {V : Type 0} where
  pub tree_map : (n : Node V) → IsTree n → IsMap (entries n)
  tree_map (Leaf key value) h = record { ascending = (tt, tt); in_range = (h, tt) }
  tree_map (Fork' bit middle p left q right) h = IsMap-append middle (entries left) (entries right) h.0.apart (tree_map left h.1) (tree_map right h.2)

  pub root_map : (r : Option (Rc (Node V) Global)) → IsRoot r → IsMap (root_entries r)
  root_map None h = record { ascending = tt; in_range = tt }
  root_map (Some n) h = tree_map n.value h
