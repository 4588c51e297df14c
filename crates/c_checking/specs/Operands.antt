-- Operands: values, and what stands at places; what a place holds, and conversions (C11 6.3).
use Rattle.std.specs.Prelude.{ℕ, ◌+◌, suc, ◌==◌, Bool, true, false, cond, ◌&&◌, not, ℤ, pos, List, [], ◌∷◌, Option, None, Some, Result, Ok, Err}
use Rattle.c_base.specs.declared.integer.IntKind.{IntKind}
use Rattle.c_base.specs.declared.integer.IntKind.TheVariants as kind
use Rattle.c_base.specs.declared.operators.BinOp.TheVariants as binary
use Rattle.c_base.specs.declared.number.Span.{Span}
use Rattle.c_types.specs.Types as types
use Rattle.c_types.specs.Compatible.{is_compatible}
use Rattle.c_typed_expr.specs.Trees as tree
use Rattle.c_typed_expr.specs.Trees.{Expr, Lvalue}
use Rattle.c_typed_expr.specs.Views.{load_of, null}
use Rattle.c_conversions.specs.Kinds.{promoted}
use Rattle.c_checking.specs.Faults.{Fault, fault, ◌>>=◌}
use Rattle.c_checking.specs.Qualified.{QType, Void, Integer, Pointer, Array, Composite, Function, Qualified, Q, type_in, is_constant, plain, erased, erased_in, is_scalar, is_void, same_kind}
use Rattle.c_checking.specs.Constants.{known, is_null_number}
use Rattle.c_checking.specs.Scopes.{Scopes, is_complete, has_constant}

-- A value, with the place of its first token. `nodes` counts those of its expression, without parentheses and without conversions that
-- aren't written.
pub record Value : Type 0 where
  pub at : Span
  pub qtype : QType
  pub tree : Expr
  pub nodes : ℕ

-- What stands at a place (C11 6.3.2.1p1), a function, or a part of a value that has no place of its own, which is no lvalue.
pub record Place : Type 0 where
  pub at : Span
  pub qualified : Qualified
  pub is_lvalue : Bool
  pub tree : Lvalue
  pub nodes : ℕ

pub data Operand : Type 0 where
  Of : Value → Operand
  At : Place → Operand

abbrev pub value : Span → QType → Expr → ℕ → Value
value at t e nodes = record { at = at; qtype = t; tree = e; nodes = nodes }

abbrev pub place : Span → Qualified → Lvalue → ℕ → Place
place at q p nodes = record { at = at; qualified = q; is_lvalue = true; tree = p; nodes = nodes }

abbrev pub at_of : Operand → Span
at_of (Of v) = v.at
at_of (At p) = p.at

abbrev pub type_of : Operand → QType
type_of (Of v) = v.qtype
type_of (At p) = type_in p.qualified

abbrev pub nodes_of : Operand → ℕ
nodes_of (Of v) = v.nodes
nodes_of (At p) = p.nodes

-- the same, with what stands around it from the place on
abbrev pub begun : Span → Operand → Operand
begun at (Of v) = Of (record v { at = at })
begun at (At p) = At (record p { at = at })

-- ---- what a place holds (C11 6.3.2.1p2 to p4)

-- an array becomes a pointer to its first element, a function a pointer to it; rule 20 where an array has no place, rule 5 where the type is
-- incomplete
abbrev pub held_as : Scopes → Place → QType → Result Value Fault
held_as s p (Array of count) = cond p.is_lvalue (Ok (value p.at (Pointer of) (tree.Address (erased_in of) p.tree) p.nodes)) (fault 20 p.at)
held_as s p (Function result params variadic) =
    Ok (value p.at (Pointer (plain (Function result params variadic))) (tree.Address (erased (Function result params variadic)) p.tree) p.nodes)
held_as s p t = cond (is_complete s t) (Ok (value p.at t (load_of (erased t) p.tree) p.nodes)) (fault 5 p.at)

abbrev pub valued : Scopes → Operand → Result Value Fault
valued s (Of v) = Ok v
valued s (At p) = held_as s p (type_in p.qualified)

-- ---- conversions

-- a conversion that isn't written, where the type is another
abbrev pub in_kind : IntKind → IntKind → Expr → Expr
in_kind target source e = cond (same_kind target source) e (tree.Convert (types.Integer target) e)

-- to int or above (C11 6.3.1.1p2)
abbrev pub in_promoted : Scopes → IntKind → Expr → Expr
in_promoted s kind e = in_kind (promoted s.machine kind) kind e

-- to a pointer, where the type isn't compatible (C11 6.3.2.3)
abbrev pub in_pointer : Qualified → Qualified → Expr → Expr
in_pointer target source e = cond (is_compatible (erased_in source) (erased_in target)) e (tree.Convert (types.Pointer (erased_in target)) e)

abbrev pub is_plain_void : Qualified → Bool
is_plain_void (Q false false Void) = true
is_plain_void _ = false

-- 0 as a constant expression that is converted to `void *`
abbrev pub is_null_tree : Scopes → Expr → Bool
is_null_tree s (tree.Convert (types.Pointer types.Void) e) = is_null_number (known s.machine e)
is_null_tree s _ = false

-- a null pointer constant (C11 6.3.2.3p3)
abbrev pub is_null_as : Scopes → QType → Expr → Bool
is_null_as s (Integer kind) e = is_null_number (known s.machine e)
is_null_as s (Pointer to) e = is_plain_void to && is_null_tree s e
is_null_as s _ e = false

abbrev pub is_null : Scopes → Value → Bool
is_null s v = is_null_as s v.qtype v.tree

abbrev pub is_bool : IntKind → Bool
is_bool kind.Bool = true
is_bool _ = false

abbrev pub if_so : Bool → Span → Expr → Result Expr Fault
if_so true at e = Ok e
if_so false at e = fault 19 at

-- rule 19: what is assigned, initialises, is passed or returned, converted to the type (C11 6.5.16.1, 6.7.9p11, 6.5.2.2p7, 6.8.6.4p3)
abbrev pub converted_as : Scopes → QType → QType → Value → Result Expr Fault
converted_as s (Integer k) (Integer l) v = Ok (in_kind k l v.tree)
converted_as s (Integer k) (Pointer to) v = if_so (is_bool k) v.at (tree.Convert (types.Integer k) v.tree)
converted_as s (Pointer p) (Pointer q) v = Ok (in_pointer p q v.tree)
converted_as s (Pointer p) (Integer k) v = if_so (is_null s v) v.at (tree.Convert (types.Pointer (erased_in p)) v.tree)
converted_as s (Composite m) (Composite n) v = if_so (m == n) v.at v.tree
converted_as s _ _ v = fault 19 v.at

abbrev pub converted_to : Scopes → QType → Value → Result Expr Fault
converted_to s t v = converted_as s t v.qtype v

-- a pointer's test as a number (C11 6.5.3.3p5, 6.5.13p3)
abbrev pub is_set : Qualified → Expr → Expr
is_set to e = tree.OnPointers binary.Ne (types.Pointer (erased_in to)) (types.Pointer (erased_in to)) e (null (types.Pointer (erased_in to)))

-- rule 16: a condition, or an operand of `&&` and `||`
abbrev pub tested_as : Span → QType → Expr → Result Expr Fault
tested_as at (Integer k) e = Ok e
tested_as at (Pointer to) e = Ok (is_set to e)
tested_as at _ e = fault 16 at

abbrev pub tested : Value → Result Expr Fault
tested v = tested_as v.at v.qtype v.tree

-- ---- what may be assigned to

abbrev pub is_assignable : Scopes → QType → Bool
is_assignable s (Array of count) = false
is_assignable s t = is_complete s t && not (has_constant s t)

-- a modifiable lvalue (C11 6.3.2.1p1)
abbrev pub is_modifiable : Scopes → Place → Bool
is_modifiable s p = p.is_lvalue && (not (is_constant p.qualified) && is_assignable s (type_in p.qualified))

-- a modifiable lvalue, or the fault of this rule
abbrev pub modifiable : Scopes → ℕ → Span → Operand → Result Place Fault
modifiable s rule at (Of v) = fault rule at
modifiable s rule at (At p) = cond (is_modifiable s p) (Ok p) (fault rule at)
