-- The trees of the code's statements, one level at a time.
use Rattle.std.proofs.Common.{◌≡◌, List, Option, None, Some, sym, ap, ◌∙◌}
use Rattle.first_program.specs.declared.tree.Test.{Test as CodeTest}
use Rattle.first_program.specs.declared.tree.Arm.{Arm as CodeArm}
use Rattle.first_program.specs.declared.tree.Stmt.{Stmt as CodeStmt, Stmt-F}
use Rattle.first_program.specs.declared.tree.Stmt.TheVariants as V
use Rattle.first_program.specs.declared.tree.Stmt.TheFolds as F
use Rattle.first_program.specs.Source.{Test, Stmt, While, Block, Nothing}
use Rattle.first_program.specs.SourceViews.{test_tree, tree_of, trees_of, stmt_step, arm_step}
use Rattle.first_analysis.specs.Tables.{arm_of, choice, last_of}

pub arm_is : (a : CodeArm) → arm_of a ≡ (test_tree a.test, tree_of a.body)
arm_is a = F.fold_out-Arm Stmt (Test × Stmt) stmt_step arm_step a

pub tree-While : (test : CodeTest) (body : CodeStmt) → tree_of (V.While test body) ≡ While (test_tree test) (tree_of body)
tree-While test body = ap tree_of (sym (V.rolls-While test body)) ∙ F.fold-roll-Stmt Stmt (Test × Stmt) stmt_step arm_step (Stmt-F.While test body)

pub tree-Block : (stmts : List CodeStmt) → tree_of (V.Block stmts) ≡ Block (trees_of stmts)
tree-Block stmts = ap tree_of (sym (V.rolls-Block stmts)) ∙ F.fold-roll-Stmt Stmt (Test × Stmt) stmt_step arm_step (Stmt-F.Block stmts)

pub tree-If : (arms : List CodeArm) → tree_of (V.If arms None) ≡ choice arms Nothing
tree-If arms = ap tree_of (sym (V.rolls-If arms None)) ∙ F.fold-roll-Stmt Stmt (Test × Stmt) stmt_step arm_step (Stmt-F.If arms None)

pub tree-If-else : (arms : List CodeArm) (last : CodeStmt) → tree_of (V.If arms (Some last)) ≡ choice arms (tree_of last)
tree-If-else arms last = ap tree_of (sym (V.rolls-If arms (Some last))) ∙ F.fold-roll-Stmt Stmt (Test × Stmt) stmt_step arm_step (Stmt-F.If arms (Some last))

pub tree-choice : (arms : List CodeArm) (otherwise : Option CodeStmt) → tree_of (V.If arms otherwise) ≡ choice arms (last_of otherwise)
tree-choice arms None = tree-If arms
tree-choice arms (Some last) = tree-If-else arms last
