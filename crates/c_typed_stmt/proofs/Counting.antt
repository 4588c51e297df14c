-- One step of what statements count, and sums over what is left of a list.
use Rattle.std.proofs.Common.{◌≡◌, ℕ, suc, ◌+◌, ◌<◌, ◌^◌, refl, ap, sym, ◌∙◌, List, [], ◌∷◌, length, drop, map, sum, Option, None, Some, arith}
use Rattle.std.proofs.lemmas.List.Sums.{sum_by-drop_more, sum-map}
use Rattle.std.proofs.Math.ListN.{get_or}
use Rattle.c_typed_stmt.specs.Weights.{counted, stmt_step, arm_step, block_step, loop_step, weight_of_stmt, weight_of_arm, weight_of_arms}
use Rattle.c_typed_stmt.specs.declared.stmt.TStmt.{TStmt}
use Rattle.c_typed_stmt.specs.declared.stmt.TStmt.TheOpen.{TStmt-F, TArm-F}
use Rattle.c_typed_stmt.specs.declared.stmt.TStmt.TheVariants as V
use Rattle.c_typed_stmt.specs.declared.stmt.TStmt.TheFolds as F
use Rattle.c_typed_stmt.specs.declared.stmt.TArm.{TArm}

-- a loop that adds up what its elements count
pub summed_step : {A : Type 0} (count : A → ℕ) (all : List A) (i total r new : ℕ) (x : A) → i < length all → x ≡ get_or all i x →
    (sum (map count all) < 2 ^ 62 → total + sum (map count (drop i all)) ≡ sum (map count all)) → (count x < 2 ^ 62 → r ≡ count x) →
    (total + r < 2 ^ 62 → new ≡ total + r) → sum (map count all) < 2 ^ 62 → new + sum (map count (drop (i + 1) all)) ≡ sum (map count all)
summed_step count all i total r new x lt is before one both small =
    let whole = before small in
    let parts : sum (map count (drop i all)) ≡ count (get_or all i x) + sum (map count (drop (i + 1) all)) =
    sum-map count (drop i all) ∙ sum_by-drop_more count all i x lt ∙ ap (λ k. count (get_or all i x) + k) (sym (sum-map count (drop (i + 1) all))) in
    let own : count x ≡ count (get_or all i x) = ap count is in
    let r' : r ≡ count x = one (omega arith) in
    let n : new ≡ total + r = both (omega arith) in
    omega arith

module _ {E I P : Type 0} (of_expr : E → ℕ) (of_init : I → ℕ) (of_pred : P → ℕ) where
  pub weight_if : (arms : List (TArm E I P)) (otherwise : Option (TStmt E I P)) → weight_of_stmt of_expr of_init of_pred (V.If arms otherwise)
      ≡ weight_of_arms of_expr of_init of_pred arms + counted (weight_of_stmt of_expr of_init of_pred) otherwise
  weight_if arms None =
      ap (weight_of_stmt of_expr of_init of_pred) (sym (V.rolls-If arms None))
      ∙ F.fold-roll-TStmt E I P ℕ ℕ ℕ ℕ (stmt_step of_expr of_init of_pred) (arm_step of_expr of_init of_pred) (block_step of_expr of_init of_pred)
      (loop_step of_expr of_init of_pred) (TStmt-F.If arms None)
  weight_if arms (Some s) =
      ap (weight_of_stmt of_expr of_init of_pred) (sym (V.rolls-If arms (Some s)))
      ∙ F.fold-roll-TStmt E I P ℕ ℕ ℕ ℕ (stmt_step of_expr of_init of_pred) (arm_step of_expr of_init of_pred) (block_step of_expr of_init of_pred)
      (loop_step of_expr of_init of_pred) (TStmt-F.If arms (Some s))
