-- The trees of what stands behind the first branch of an `if`.
use Rattle.std.specs.Prelude.{List, [], ◌∷◌, map, option_map}
use Rattle.grammar.specs.Forms.{Tree}
use Rattle.c_grammar.specs.Leaves.{C}
use Rattle.c_unit_tree.specs.Views.{arm_kids, last_of, listing, statement_tree}
use Rattle.c_parse_ladder.specs.declared.nodes.Ladder.{Ladder}

abbrev pub ladder_trees : Ladder → List (Tree C)
ladder_trees l = listing (map arm_kids l.more) ∷ last_of (option_map statement_tree l.otherwise) ∷ []
