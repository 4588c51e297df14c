-- What the code finds, as what the definitions say.
use Rattle.std.specs.Prelude.{ℕ, ◌≡◌, List, [], ◌∷◌, map, Option, None, Some}
use Rattle.std.specs.Borrow.{Bor}
use Rattle.c_tree.specs.declared.tree.Attribute.{Attribute}
use Rattle.c_tree.specs.declared.tree.Expr.{Expr}
use Rattle.c_unit_tree.specs.declared.declaration.Declaration.{Declaration}
use Rattle.c_unit_tree.specs.declared.statement.BlockItem.{BlockItem}
use Rattle.c_unit_tree.specs.Views.{block_item_kids, declaration_tree, some}
use Rattle.grammar.specs.Forms.{Next, Trees}
use Rattle.grammar.specs.Reading.{groups}
use Rattle.c_grammar.specs.Leaves.{C}
use Rattle.first_program.specs.declared.tree.Arm.{Arm as CodeArm, fold-Arm}
use Rattle.first_program.specs.Source.{Test, Stmt}
use Rattle.first_program.specs.SourceViews.{stmt_step, arm_step}
use Rattle.first_units.specs.Language.{variables_in}

abbrev pub arm_of : CodeArm → Test × Stmt
arm_of = fold-Arm Stmt (Test × Stmt) stmt_step arm_step

abbrev pub Item : Type 0
Item = BlockItem Expr Declaration Attribute

abbrev pub items_kids : List Item → Trees C
items_kids items = groups C (map block_item_kids items)

-- a declaration stands first, and these items behind it; or none does, so that no further names are declared
abbrev pub BeginsDeclared : List Item → Option (Bor Declaration × Bor (List Item)) → Type 0
BeginsDeclared items None = (names : List (List ℕ)) → variables_in names (items_kids items) ≡ Some (names, items_kids items)
BeginsDeclared items (Some f) = items_kids items ≡ Next (some (some (declaration_tree f.0.now ∷ []) ∷ [])) (items_kids f.1.now)
