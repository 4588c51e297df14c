-- What a function counts for the work of an analysis: the statements and blocks of its body, their nodes, its closing brace, and the nodes of
-- its contract. A call by a pointer counts the functions that it may enter besides.
use Rattle.std.specs.Prelude.{ℕ, suc, ◌+◌, ◌==◌, cond, List, [], ◌∷◌, map, sum, Option, None, Some}
use Rattle.c_types.specs.Types.{CType}
use Rattle.c_typed_expr.specs.Nodes.{nodes}
use Rattle.c_typed_expr.specs.declared.expr.TExpr.{TExpr}
use Rattle.c_typed_term.specs.declared.predicate.TPred.{TPred}
use Rattle.c_typed_stmt.specs.declared.stmt.TBlock.{TBlock}
use Rattle.c_typed_term.specs.Nodes.{nodes_of_predicate, nodes_of_contract}
use Rattle.c_typed_term.specs.declared.contract.TContract.{TContract}
use Rattle.c_typed_stmt.specs.Weights.{counted, weight_of_block}
use Rattle.c_typed_stmt.specs.declared.init.TInit.{TInit}
use Rattle.c_typed_stmt.specs.declared.init.TInitItem.{TInitItem}
use Rattle.c_typed_stmt.specs.declared.init.TInitItem.TheVariants as item
use Rattle.c_program.specs.declared.program.Function.{Function}
use Rattle.c_program.specs.declared.program.TypedProgram.{TypedProgram}
use Rattle.c_program.specs.StaticCalls.{callees}
use Rattle.c_program.specs.Views.{program_of}

-- an initialiser's values, and a string literal as one node; braces and designators are none
abbrev pub item_nodes : (CType → ℕ) → TInitItem → ℕ
item_nodes count (item.Value place t e) = nodes count e
item_nodes count (item.Text image) = 1

abbrev pub init_nodes : (CType → ℕ) → TInit → ℕ
init_nodes count init = sum (map (item_nodes count) init.items)

module _ (count : CType → ℕ) where
  abbrev pub body_weight : Option (TBlock TExpr TInit TPred) → ℕ
  body_weight body = counted (weight_of_block (nodes count) (init_nodes count) nodes_of_predicate) body

  -- where the function has a body
  abbrev pub function_weight : Function → ℕ
  function_weight f = suc (body_weight f.body + counted nodes_of_contract f.contract)

abbrev pub found_in : List Function → ℕ → Option Function
found_in [] base = None
found_in (f ∷ fs) base = cond (f.base.0 == base) (Some f) (found_in fs base)

abbrev pub weight : TypedProgram → ℕ → ℕ
weight p base = counted (function_weight (callees (program_of p))) (found_in p.functions base)

-- all functions with bodies together
abbrev pub body_counted : (Function → ℕ) → Function → ℕ
body_counted count f = by_body f.body
  where
    by_body : Option (TBlock TExpr TInit TPred) → ℕ
    by_body None = 0
    by_body (Some body) = count f

abbrev pub total_weight : TypedProgram → ℕ
total_weight p = sum (map (body_counted (function_weight (callees (program_of p)))) p.functions)
