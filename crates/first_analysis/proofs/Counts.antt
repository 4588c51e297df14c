-- How many numbered statements trees have, statement by statement.
use Rattle.std.proofs.Common.{◌≡◌, ℕ, suc, ◌+◌, ◌<◌, List, [], ◌∷◌, Option, map, length, get_or, drop, refl, ap, ◌∙◌, arith}
use Rattle.std.proofs.Math.Seq.{drop-cons}
use Rattle.std.proofs.Math.Numerals.{add-one}
use Rattle.first_program.specs.Source.{Test}
use Rattle.first_program.specs.declared.tree.Arm.{Arm as CodeArm}
use Rattle.first_program.specs.declared.tree.Stmt.{Stmt as CodeStmt}
use Rattle.first_program.specs.declared.tree.Stmt.TheVariants as V
use Rattle.first_program.specs.Source.{Stmt, Nothing, count, count_all}
use Rattle.first_program.specs.SourceViews.{tree_of, trees_of, ladder}
use Rattle.first_analysis.specs.Tables.{arm_of, choice, last_of}
use Rattle.first_analysis.proofs.Trees.{arm_is, tree-choice}

count_ladder : (arms : List (Test × Stmt)) (last : Stmt) → count (ladder arms last) ≡ count (ladder arms Nothing) + count last
count_ladder [] last = omega arith
count_ladder (a ∷ arms) last = let e = count_ladder arms last in omega arith

pub count_choice : (arms : List CodeArm) (last : Stmt) → count (choice arms last) ≡ count (choice arms Nothing) + count last
count_choice arms last = count_ladder (map arm_of arms) last

pub choice_step : (arms : List CodeArm) (i : ℕ) (d : CodeArm) (last : Stmt) → i < length arms →
    count (choice (drop i arms) last) ≡ suc (count (tree_of (get_or arms i d).body)) + count (choice (drop (i + 1) arms) last)
choice_step arms i d last h =
    let front : drop i arms ≡ get_or arms i d ∷ drop (suc i) arms = drop-cons arms i d h in
    rw (front, arm_is (get_or arms i d), add-one) (omega arith)

pub stmts_step : (stmts : List CodeStmt) (i : ℕ) (d : CodeStmt) → i < length stmts →
    count_all (trees_of (drop i stmts)) ≡ count (tree_of (get_or stmts i d)) + count_all (trees_of (drop (i + 1) stmts))
stmts_step stmts i d h =
    let front : drop i stmts ≡ get_or stmts i d ∷ drop (suc i) stmts = drop-cons stmts i d h in
    rw (front, add-one) refl

-- the two parts of a ladder
pub count_if : (stmt : CodeStmt) (arms : List CodeArm) (otherwise : Option CodeStmt) → stmt ≡ V.If arms otherwise →
    count (tree_of stmt) ≡ count (choice arms Nothing) + count (last_of otherwise)
count_if stmt arms otherwise is = ap (λ s. count (tree_of s)) is ∙ ap count (tree-choice arms otherwise) ∙ count_choice arms (last_of otherwise)
