-- The trees of a controlling expression and of what it controls.
use Rattle.std.specs.Prelude.{List, [], ◌∷◌}
use Rattle.grammar.specs.Forms.{Tree}
use Rattle.c_grammar.specs.Leaves.{C}
use Rattle.c_unit_tree.specs.Views.{branch_of, expr_value, statement_tree}
use Rattle.c_parse_nested.specs.declared.branches.Controlled.{Controlled}

abbrev pub controlled_trees : Controlled → List (Tree C)
controlled_trees c = expr_value c.control ∷ branch_of (statement_tree c.body) ∷ []
