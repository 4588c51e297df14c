-- What stands behind an operand (C11 6.5.2): elements, members, calls.
use Rattle.std.specs.Prelude.{ℕ, zero, suc, ◌+◌, Bool, true, false, cond, ◌||◌, List, [], ◌∷◌, Option, None, Some, Result, Ok, Err, nat_le, ◌==◌}
use Rattle.c_base.specs.declared.integer.IntKind.{IntKind}
use Rattle.c_base.specs.declared.integer.IntKind.TheVariants as kind
use Rattle.c_base.specs.declared.operators.BinOp.TheVariants as binary
use Rattle.c_base.specs.declared.number.Span.{Span}
use Rattle.c_types.specs.Types as types
use Rattle.c_typed_expr.specs.Trees as tree
use Rattle.c_typed_expr.specs.Trees.{Expr, Lvalue, Exprs, NoExpr, NextExpr}
use Rattle.c_typed_expr.specs.Views.{behind}
use Rattle.c_conversions.specs.Kinds.{promoted}
use Rattle.c_checking.specs.Faults.{Fault, fault, ◌>>=◌}
use Rattle.c_checking.specs.Qualified.{QType, QTypes, Nil, Next, Void, Integer, Pointer, Array, Composite, Function, Qualified, Q, type_in, is_volatile, plain, further, erased, erased_in, is_void}
use Rattle.c_checking.specs.Scopes.{Scopes, is_complete, Path, member_of}
use Rattle.c_checking.specs.Operands.{Value, Place, Operand, Of, At, value, place, valued, in_kind, in_promoted, converted_to}

-- ---- `[]` (C11 6.5.2.1)

-- an array of known bound, whose elements are counted; or a value
pub data Indexed : Type 0 where
  Elements : Place → Qualified → ℕ → Indexed
  Plain : Value → Indexed

-- an array without bound becomes a pointer, as any other operand is a value
abbrev pub indexed_as : Scopes → Place → QType → Result Indexed Fault
indexed_as s p (Array of (suc n)) = Ok (Elements p of (suc n))
indexed_as s p _ = do
  v ← valued s (At p)
  Ok (Plain v)

abbrev pub indexed : Scopes → Operand → Result Indexed Fault
indexed s (Of v) = Ok (Plain v)
indexed s (At p) = indexed_as s p (type_in p.qualified)

abbrev pub an_element : Place → Qualified → Lvalue → ℕ → Operand
an_element p of q nodes = At (record { at = p.at; qualified = of; is_lvalue = p.is_lvalue; tree = q; nodes = nodes })

-- rule 22: an element of an array
abbrev pub element_as : Place → Qualified → ℕ → QType → Value → Result Operand Fault
element_as p of n (Integer k) i = Ok (an_element p of (tree.Element p.tree i.tree (erased_in of) n false) (suc (p.nodes + i.nodes)))
element_as p of n _ i = fault 22 p.at

-- the same, where the index is written first
abbrev pub element_of_as : Value → Place → Qualified → ℕ → QType → Result Operand Fault
element_of_as i p of n (Integer k) =
    Ok (an_element (record p { at = i.at }) of (tree.ElementOf i.tree p.tree (erased_in of) n false) (suc (i.nodes + p.nodes)))
element_of_as i p of n _ = fault 22 i.at

-- so many elements behind a pointer, a number of type long
abbrev pub in_long : IntKind → Expr → Expr
in_long k e = in_kind kind.Long k e

abbrev pub if_complete : Scopes → Span → Qualified → Lvalue → ℕ → Result Operand Fault
if_complete s at to p nodes = cond (is_complete s (type_in to)) (Ok (At (place at to p nodes))) (fault 22 at)

abbrev pub pointed_at : Qualified → Expr → Lvalue
pointed_at to e = tree.Pointed e (erased_in to) (is_volatile to)

-- rule 22: one pointer to a complete type and one integer
abbrev pub subscript_as : Scopes → QType → QType → Value → Value → Result Operand Fault
subscript_as s (Pointer to) (Integer k) v i = if_complete s v.at to (pointed_at to (behind (erased_in to) v.tree (in_long k i.tree))) (suc (v.nodes + i.nodes))
subscript_as s (Integer k) (Pointer to) v i =
    if_complete s v.at to (pointed_at to (tree.OnPointers binary.Add (types.Integer kind.Long) (types.Pointer (erased_in to)) (in_long k v.tree) i.tree)) (suc (v.nodes + i.nodes))
subscript_as s _ _ v i = fault 22 v.at

abbrev pub at_indexed : Indexed → Span
at_indexed (Elements p of n) = p.at
at_indexed (Plain v) = v.at

abbrev pub subscript : Scopes → Indexed → Indexed → Result Operand Fault
subscript s (Elements p of n) (Plain i) = element_as p of n i.qtype i
subscript s (Plain i) (Elements p of n) = element_of_as i p of n i.qtype
subscript s (Plain v) (Plain i) = subscript_as s v.qtype i.qtype v i
subscript s x (Elements p of n) = fault 22 (at_indexed x)

-- ---- `.` and `->` (C11 6.5.2.3)

-- a member by way of those without a name, with the qualifiers of what holds it
abbrev pub along : Lvalue → List (ℕ × ℕ) → Lvalue
along p [] = p
along p (step ∷ more) = along (tree.Member p step.0 step.1) more

abbrev pub count : List (ℕ × ℕ) → ℕ
count [] = 0
count (step ∷ more) = suc (count more)

abbrev pub qualified_like : Qualified → Qualified → Qualified
qualified_like (Q c v t) q = further c v q

-- rule 23
abbrev pub member_at : Place → Option Path → Result Operand Fault
member_at p None = fault 23 p.at
member_at p (Some path) =
    Ok (At (record { at = p.at; qualified = qualified_like p.qualified path.qualified; is_lvalue = p.is_lvalue; tree = along p.tree path.steps; nodes = p.nodes + count path.steps }))

abbrev pub member_as : Scopes → List ℕ → Place → QType → Result Operand Fault
member_as s name p (Composite number) = member_at p (member_of s number name)
member_as s name p _ = fault 23 p.at

-- a value without a place of its own (C11 6.2.4p8)
abbrev pub temporary : Value → Place
temporary v = record { at = v.at; qualified = plain v.qtype; is_lvalue = false; tree = tree.Temporary v.tree (erased v.qtype); nodes = v.nodes }

abbrev pub dot : Scopes → List ℕ → Operand → Result Operand Fault
dot s name (Of v) = member_as s name (temporary v) v.qtype
dot s name (At p) = member_as s name p (type_in p.qualified)

abbrev pub arrow_as : Scopes → List ℕ → Value → QType → Result Operand Fault
arrow_as s name v (Pointer to) = member_as s name (place v.at to (pointed_at to v.tree) v.nodes) (type_in to)
arrow_as s name v _ = fault 23 v.at

abbrev pub arrow : Scopes → List ℕ → Operand → Result Operand Fault
arrow s name x = do
  v ← valued s x
  arrow_as s name v v.qtype

-- ---- calls (C11 6.5.2.2)

-- what is called: where it stands, its result, its parameters, and whether more arguments may follow
pub record Callee : Type 0 where
  pub at : Span
  pub tree : Lvalue
  pub result : QType
  pub parameters : QTypes
  pub variadic : Bool
  pub nodes : ℕ

-- rule 24
abbrev pub called_as : Span → Lvalue → ℕ → QType → Result Callee Fault
called_as at p nodes (Function result params variadic) =
    Ok (record { at = at; tree = p; result = result; parameters = params; variadic = variadic; nodes = nodes })
called_as at p nodes _ = fault 24 at

abbrev pub called_by : Value → QType → Result Callee Fault
called_by v (Pointer to) = called_as v.at (pointed_at to v.tree) v.nodes (type_in to)
called_by v _ = fault 24 v.at

abbrev pub called_at : Scopes → Place → QType → Result Callee Fault
called_at s p (Function result params variadic) = called_as p.at p.tree p.nodes (Function result params variadic)
called_at s p _ = do
  v ← valued s (At p)
  called_by v v.qtype

abbrev pub called : Scopes → Operand → Result Callee Fault
called s (Of v) = called_by v v.qtype
called s (At p) = called_at s p (type_in p.qualified)

-- rule 5: what a call gives has a size, or is nothing
abbrev pub gives : Scopes → Callee → Result Callee Fault
gives s c = cond (is_void c.result || is_complete s c.result) (Ok c) (fault 5 c.at)

-- rule 25
abbrev pub is_enough : QTypes → Bool → ℕ → Bool
is_enough Nil variadic zero = true
is_enough Nil variadic (suc n) = variadic
is_enough (Next t more) variadic zero = false
is_enough (Next t more) variadic (suc n) = is_enough more variadic n

abbrev pub takes : Callee → ℕ → Result Callee Fault
takes c n = cond (is_enough c.parameters c.variadic n) (Ok c) (fault 25 c.at)

-- what the first of some parameters is, and the others
abbrev pub first_of : QTypes → Option QType
first_of Nil = None
first_of (Next t more) = Some t

abbrev pub behind_first : QTypes → QTypes
behind_first Nil = Nil
behind_first (Next t more) = more

-- rule 19: an argument that no parameter stands for is promoted (C11 6.5.2.2p7)
abbrev pub passed_as : Scopes → QType → Value → Result Expr Fault
passed_as s Void v = fault 19 v.at
passed_as s (Integer k) v = Ok (in_promoted s k v.tree)
passed_as s _ v = Ok v.tree

abbrev pub passed_to : Scopes → Option QType → Value → Result Expr Fault
passed_to s None v = passed_as s v.qtype v
passed_to s (Some t) v = converted_to s t v

-- the call, at its site
abbrev pub call : Callee → ℕ → Exprs → ℕ → Operand
call c site arguments nodes = Of (value c.at c.result (tree.Call site (erased c.result) c.tree arguments) (c.nodes + suc nodes))
