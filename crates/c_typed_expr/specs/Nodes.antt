-- How many nodes expressions have: without parentheses and conversions that aren't written, and each operator of a run is one. An object
-- whose address is taken by its use as a pointer is the node of its name. A call by a pointer counts what `count` gives for the type of the
-- function besides: how many functions it may reach.
use Rattle.std.specs.Prelude.{ℕ, suc, ◌+◌, List, [], ◌∷◌, map, sum, length, Option, None, Some}
use Rattle.c_types.specs.Types as types
use Rattle.c_types.specs.Views.{type_of}
use Rattle.c_types.specs.declared.ctype.CType.{CType}
use Rattle.c_typed_expr.specs.declared.expr.TExpr.{TExpr, fold-TExpr}
use Rattle.c_typed_expr.specs.declared.expr.TExpr.TheOpen.{TExpr-F, TRoot-F, TStep-F, TCompound-F, TLval-F, TOperand-F}
use Rattle.c_typed_expr.specs.declared.expr.TRoot.{TRoot, fold-TRoot}
use Rattle.c_typed_expr.specs.declared.expr.TStep.{TStep, fold-TStep}
use Rattle.c_typed_expr.specs.declared.expr.TCompound.{TCompound, fold-TCompound}
use Rattle.c_typed_expr.specs.declared.expr.TLval.{TLval, fold-TLval}
use Rattle.c_typed_expr.specs.declared.expr.TOperand.{TOperand, fold-TOperand}

module _ (count : types.CType → ℕ) where
  abbrev pub callees : Option CType → ℕ
  callees None = 0
  callees (Some t) = count (type_of t)

  abbrev pub expr_nodes : TExpr-F ℕ ℕ ℕ ℕ ℕ ℕ → ℕ
  expr_nodes (TExpr-F.Const n kind) = 1
  expr_nodes (TExpr-F.SizeOf size nodes) = suc nodes
  expr_nodes (TExpr-F.Value place t) = place
  expr_nodes (TExpr-F.Address place t) = suc place
  expr_nodes (TExpr-F.Decay place t) = place
  expr_nodes (TExpr-F.Unary op kind e) = suc e
  expr_nodes (TExpr-F.Run first more) = first + sum more
  expr_nodes (TExpr-F.Logic is_and first more) = first + (sum more + length more)
  expr_nodes (TExpr-F.Conditional a b c t) = suc (a + (b + c))
  expr_nodes (TExpr-F.Assign place t e) = suc (place + e)
  expr_nodes (TExpr-F.Compound compound) = compound
  expr_nodes (TExpr-F.StepBefore place t up) = suc place
  expr_nodes (TExpr-F.Convert t e) = e
  expr_nodes (TExpr-F.Cast t e) = suc e
  expr_nodes (TExpr-F.IsSet t e) = e
  expr_nodes (TExpr-F.Comma before last) = last + (sum before + length before)

  abbrev pub root_nodes : TRoot-F ℕ ℕ ℕ ℕ ℕ ℕ → ℕ
  root_nodes (TRoot-F.Object base) = 1
  root_nodes (TRoot-F.Deref e t volatile) = suc e
  root_nodes (TRoot-F.Temporary e t) = e
  root_nodes (TRoot-F.ElementOf e place t n end) = suc (e + place)
  root_nodes (TRoot-F.BeyondOf number pointer t volatile) = suc (number + pointer)

  abbrev pub step_nodes : TStep-F ℕ ℕ ℕ ℕ ℕ ℕ → ℕ
  step_nodes (TStep-F.Member c m) = 1
  step_nodes (TStep-F.Element e t n end) = suc e
  step_nodes (TStep-F.Follow t volatile) = 0
  step_nodes (TStep-F.Beyond e t volatile) = suc e
  step_nodes (TStep-F.Call site arguments t pointed) = suc (sum arguments + callees pointed)
  step_nodes (TStep-F.StepAfter t up) = 1

  abbrev pub compound_nodes : TCompound-F ℕ ℕ ℕ ℕ ℕ ℕ → ℕ
  compound_nodes c = suc (c.place + c.operand)

  abbrev pub lvalue_nodes : TLval-F ℕ ℕ ℕ ℕ ℕ ℕ → ℕ
  lvalue_nodes l = l.root + sum l.steps

  abbrev pub operand_nodes : TOperand-F ℕ ℕ ℕ ℕ ℕ ℕ → ℕ
  operand_nodes o = suc o.operand

  abbrev pub nodes : TExpr → ℕ
  nodes = fold-TExpr ℕ ℕ ℕ ℕ ℕ ℕ expr_nodes root_nodes step_nodes compound_nodes lvalue_nodes operand_nodes

  abbrev pub nodes_of_root : TRoot → ℕ
  nodes_of_root = fold-TRoot ℕ ℕ ℕ ℕ ℕ ℕ expr_nodes root_nodes step_nodes compound_nodes lvalue_nodes operand_nodes

  abbrev pub nodes_of_step : TStep → ℕ
  nodes_of_step = fold-TStep ℕ ℕ ℕ ℕ ℕ ℕ expr_nodes root_nodes step_nodes compound_nodes lvalue_nodes operand_nodes

  abbrev pub nodes_of_compound : TCompound → ℕ
  nodes_of_compound = fold-TCompound ℕ ℕ ℕ ℕ ℕ ℕ expr_nodes root_nodes step_nodes compound_nodes lvalue_nodes operand_nodes

  abbrev pub nodes_of_lvalue : TLval → ℕ
  nodes_of_lvalue = fold-TLval ℕ ℕ ℕ ℕ ℕ ℕ expr_nodes root_nodes step_nodes compound_nodes lvalue_nodes operand_nodes

  abbrev pub nodes_of_operand : TOperand → ℕ
  nodes_of_operand = fold-TOperand ℕ ℕ ℕ ℕ ℕ ℕ expr_nodes root_nodes step_nodes compound_nodes lvalue_nodes operand_nodes

  abbrev pub nodes_of_all : List TExpr → ℕ
  nodes_of_all all = sum (map nodes all)

  abbrev pub nodes_of_steps : List TStep → ℕ
  nodes_of_steps all = sum (map nodes_of_step all)

  abbrev pub nodes_of_operands : List TOperand → ℕ
  nodes_of_operands all = sum (map nodes_of_operand all)
