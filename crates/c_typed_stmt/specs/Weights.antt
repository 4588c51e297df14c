-- What statements count for the work of an analysis: each numbered statement, block, label, `case` and `default` counts one, and the nodes
-- of what they hold are added. The constant of a `case` doesn't count.
use Rattle.std.specs.Prelude.{ℕ, suc, ◌+◌, List, [], ◌∷◌, map, sum, Option, None, Some}
use Rattle.c_typed_stmt.specs.declared.stmt.Numbered.{Numbered}
use Rattle.c_typed_stmt.specs.declared.stmt.TStmt.{TStmt, fold-TStmt}
use Rattle.c_typed_stmt.specs.declared.stmt.TStmt.TheOpen.{TStmt-F, TArm-F, TBlock-F, TLoop-F}
use Rattle.c_typed_stmt.specs.declared.stmt.TArm.{TArm, fold-TArm}
use Rattle.c_typed_stmt.specs.declared.stmt.TBlock.{TBlock, fold-TBlock}
use Rattle.c_typed_stmt.specs.declared.stmt.TLoop.{TLoop, fold-TLoop}

-- what is counted, where there is something
abbrev pub counted : {A : Type 0} → (A → ℕ) → Option A → ℕ
counted count None = 0
counted count (Some a) = count a

module _ {E I P : Type 0} (of_expr : E → ℕ) (of_init : I → ℕ) (of_pred : P → ℕ) where
  abbrev pub of_numbered : Option (Numbered E) → ℕ
  of_numbered None = 0
  of_numbered (Some n) = suc (of_expr n.value)

  abbrev pub stmt_step : TStmt-F E I P ℕ ℕ ℕ ℕ → ℕ
  stmt_step (TStmt-F.Expr id e) = suc (of_expr e)
  stmt_step (TStmt-F.Init id base init) = suc (of_init init)
  stmt_step (TStmt-F.Block block) = block
  stmt_step (TStmt-F.If arms otherwise) = sum arms + counted (λ n. n) otherwise
  stmt_step (TStmt-F.Loop body) = body
  stmt_step (TStmt-F.Switch id e body) = suc (of_expr e + body)
  stmt_step (TStmt-F.Case value body) = suc body
  stmt_step (TStmt-F.Label name body) = suc body
  stmt_step (TStmt-F.Goto id name) = 1
  stmt_step (TStmt-F.Break id) = 1
  stmt_step (TStmt-F.Continue id) = 1
  stmt_step (TStmt-F.Return id value) = suc (counted of_expr value)
  stmt_step (TStmt-F.Empty id) = 1
  stmt_step (TStmt-F.Assert id predicate) = suc (of_pred predicate)

  abbrev pub arm_step : TArm-F E I P ℕ ℕ ℕ ℕ → ℕ
  arm_step a = suc (of_expr a.cond + a.body)

  abbrev pub block_step : TBlock-F E I P ℕ ℕ ℕ ℕ → ℕ
  block_step b = suc (sum b.stmts)

  abbrev pub loop_step : TLoop-F E I P ℕ ℕ ℕ ℕ → ℕ
  loop_step l = suc (of_numbered l.first + (sum (map of_pred l.invariants) + (counted of_expr l.cond + (of_numbered l.next + l.body))))

  abbrev pub weight_of_stmt : TStmt E I P → ℕ
  weight_of_stmt = fold-TStmt E I P ℕ ℕ ℕ ℕ stmt_step arm_step block_step loop_step

  abbrev pub weight_of_arm : TArm E I P → ℕ
  weight_of_arm = fold-TArm E I P ℕ ℕ ℕ ℕ stmt_step arm_step block_step loop_step

  abbrev pub weight_of_block : TBlock E I P → ℕ
  weight_of_block = fold-TBlock E I P ℕ ℕ ℕ ℕ stmt_step arm_step block_step loop_step

  abbrev pub weight_of_loop : TLoop E I P → ℕ
  weight_of_loop = fold-TLoop E I P ℕ ℕ ℕ ℕ stmt_step arm_step block_step loop_step

  abbrev pub weight_of_stmts : List (TStmt E I P) → ℕ
  weight_of_stmts all = sum (map weight_of_stmt all)

  abbrev pub weight_of_arms : List (TArm E I P) → ℕ
  weight_of_arms all = sum (map weight_of_arm all)
