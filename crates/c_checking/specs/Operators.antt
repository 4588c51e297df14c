-- The rules of operators (C11 6.5.3 to 6.5.17), as functions of their checked operands. Each names the first rule that its node breaks.
use Rattle.std.specs.Prelude.{ℕ, ◌+◌, suc, Bool, true, false, cond, ◌&&◌, ◌||◌, ℤ, pos, List, Option, None, Some, Result, Ok, Err}
use Rattle.c_base.specs.declared.integer.IntKind.{IntKind}
use Rattle.c_base.specs.declared.integer.IntKind.TheVariants as kind
use Rattle.c_base.specs.declared.operators.BinOp.{BinOp}
use Rattle.c_base.specs.declared.operators.BinOp.TheVariants as binary
use Rattle.c_base.specs.declared.operators.UnOp.{UnOp}
use Rattle.c_base.specs.declared.operators.UnOp.TheVariants as unary
use Rattle.c_base.specs.declared.number.Span.{Span}
use Rattle.c_memory.specs.Operations.{is_comparison}
use Rattle.c_types.specs.Types as types
use Rattle.c_types.specs.Types.{Extent}
use Rattle.c_typed_expr.specs.Trees as tree
use Rattle.c_typed_expr.specs.Trees.{Expr, Lvalue}
use Rattle.c_typed_expr.specs.Views.{assignment_of, null}
use Rattle.c_conversions.specs.Kinds.{promoted, common}
use Rattle.c_tree.specs.declared.operator.AssignmentOperator.{AssignmentOperator}
use Rattle.c_tree.specs.declared.operator.AssignmentOperator.TheVariants as assigning
use Rattle.c_tree.specs.declared.operator.BinaryOperator.{BinaryOperator}
use Rattle.c_tree.specs.declared.operator.BinaryOperator.TheVariants as op
use Rattle.c_tree.specs.declared.operator.PrefixOperator.{PrefixOperator}
use Rattle.c_tree.specs.declared.operator.PrefixOperator.TheVariants as prefix
use Rattle.c_tree.specs.declared.operator.TypeOperator.{TypeOperator}
use Rattle.c_tree.specs.declared.operator.TypeOperator.TheVariants as asking
use Rattle.c_checking.specs.Faults.{Fault, fault, ◌>>=◌}
use Rattle.c_checking.specs.Qualified.{QType, Void, Integer, Pointer, Array, Composite, Function, Qualified, Q, type_in, plain, erased, erased_in, is_scalar, is_void, are_alike, composite}
use Rattle.c_checking.specs.Scopes.{Scopes, extent_of, is_complete}
use Rattle.c_checking.specs.Operands.{Value, Place, Operand, Of, At, value, place, at_of, type_of, nodes_of, valued, in_kind, in_promoted, in_pointer, is_null, is_set, tested, converted_to, modifiable}

-- ---- one operand (C11 6.5.3)

-- an element that only gives its address may be the one behind the last (C11 6.5.3.2p3, 6.5.6p8)
abbrev pub may_be_end : Lvalue → Lvalue
may_be_end (tree.Element p e t n end) = tree.Element p e t n true
may_be_end (tree.ElementOf e p t n end) = tree.ElementOf e p t n true
may_be_end p = p

abbrev pub address_of : Span → Place → Value
address_of at p = value at (Pointer p.qualified) (tree.Address (erased_in p.qualified) (may_be_end p.tree)) (suc p.nodes)

-- rule 20
abbrev pub address : Span → Operand → Result Operand Fault
address at (Of v) = fault 20 at
address at (At p) = cond p.is_lvalue (Ok (Of (address_of at p))) (fault 20 at)

-- rule 21
abbrev pub pointed : Span → Qualified → Expr → ℕ → Result Operand Fault
pointed at (Q c v Void) e nodes = fault 21 at
pointed at (Q c v t) e nodes = Ok (At (place at (Q c v t) (tree.Pointed e (erased t) v) nodes))

abbrev pub indirection_as : Span → QType → Value → Result Operand Fault
indirection_as at (Pointer to) v = pointed at to v.tree (suc v.nodes)
indirection_as at _ v = fault 21 at

-- rule 12
abbrev pub signed_as : Scopes → Span → UnOp → QType → Value → Result Operand Fault
signed_as s at o (Integer k) v =
    Ok (Of (value at (Integer (promoted s.machine k)) (tree.Unary o (promoted s.machine k) (in_promoted s k v.tree)) (suc v.nodes)))
signed_as s at o _ v = fault 12 at

-- unary `+` is a conversion that is written
abbrev pub plus_as : Scopes → Span → QType → Value → Result Operand Fault
plus_as s at (Integer k) v = Ok (Of (value at (Integer (promoted s.machine k)) (tree.Convert (types.Integer (promoted s.machine k)) v.tree) (suc v.nodes)))
plus_as s at _ v = fault 12 at

abbrev pub int : QType
int = Integer kind.Int

-- rule 12; a pointer is tested too
abbrev pub negation_as : Scopes → Span → QType → Value → Result Operand Fault
negation_as s at (Integer k) v = Ok (Of (value at int (tree.Unary unary.Not (promoted s.machine k) (in_promoted s k v.tree)) (suc v.nodes)))
negation_as s at (Pointer to) v = Ok (Of (value at int (tree.Unary unary.Not kind.Int (is_set to v.tree)) (suc v.nodes)))
negation_as s at _ v = fault 12 at

-- rule 27: a size in bytes, of type size_t (C11 6.5.3.4p2 and p5)
abbrev pub size_from : Span → ℕ → Option Extent → Result Operand Fault
size_from at nodes None = fault 27 at
size_from at nodes (Some e) = Ok (Of (value at (Integer kind.ULong) (tree.Number kind.ULong (pos e.size)) nodes))

abbrev pub alignment_from : Span → Option Extent → Result Operand Fault
alignment_from at None = fault 27 at
alignment_from at (Some e) = Ok (Of (value at (Integer kind.ULong) (tree.Number kind.ULong (pos e.align)) 1))

abbrev pub asked : Scopes → TypeOperator → Span → QType → Result Operand Fault
asked s asking.Sizeof at t = size_from at 1 (extent_of s t)
asked s asking.Alignof at t = alignment_from at (extent_of s t)

-- rule 28, and rule 5 where a pointer's target has no size
abbrev pub stepped_as : Scopes → Span → Bool → Bool → Place → QType → Result Operand Fault
stepped_as s at up behind p (Integer k) = Ok (Of (value at (Integer k) (tree.Step up behind (types.Integer k) p.tree) (suc p.nodes)))
stepped_as s at up behind p (Pointer to) =
    cond (is_complete s (type_in to)) (Ok (Of (value at (Pointer to) (tree.Step up behind (types.Pointer (erased_in to)) p.tree) (suc p.nodes)))) (fault 5 at)
stepped_as s at up behind p _ = fault 28 at

-- `++` (true) or `--`, behind the operand (true) or before it
abbrev pub stepped : Scopes → Span → Bool → Bool → Operand → Result Operand Fault
stepped s at up behind x = do
  p ← modifiable s 28 at x
  stepped_as s at up behind p (type_in p.qualified)

abbrev pub prefixed : Scopes → PrefixOperator → Span → Operand → Result Operand Fault
prefixed s prefix.Increment at x = stepped s at true false x
prefixed s prefix.Decrement at x = stepped s at false false x
prefixed s prefix.Address at x = address at x
prefixed s prefix.Sizeof at x = size_from at (suc (nodes_of x)) (extent_of s (type_of x))
prefixed s prefix.Indirection at x = do
  v ← valued s x
  indirection_as at v.qtype v
prefixed s prefix.Plus at x = do
  v ← valued s x
  plus_as s at v.qtype v
prefixed s prefix.Minus at x = do
  v ← valued s x
  signed_as s at unary.Neg v.qtype v
prefixed s prefix.Complement at x = do
  v ← valued s x
  signed_as s at unary.Compl v.qtype v
prefixed s prefix.Not at x = do
  v ← valued s x
  negation_as s at v.qtype v

-- rule 26: a conversion that is written (C11 6.5.4), to void or between scalar types
abbrev pub cast : Span → QType → Value → Result Operand Fault
cast at t v = cond (is_void t || (is_scalar t && is_scalar v.qtype)) (Ok (Of (value at t (tree.Convert (erased t) v.tree) (suc v.nodes)))) (fault 26 at)

-- ---- two operands

-- what an operator makes of two operands: the types that they are converted to, their trees, and the type of the result
pub record Pair : Type 0 where
  pub left : QType
  pub right : QType
  pub first : Expr
  pub second : Expr
  pub result : QType

abbrev pub pair : QType → QType → Expr → Expr → QType → Pair
pair l r x y t = record { left = l; right = r; first = x; second = y; result = t }

abbrev pub result_kind : BinOp → IntKind → IntKind
result_kind o k = cond (is_comparison o) kind.Int k

-- both converted to one type (C11 6.3.1.8)
abbrev pub usual : Scopes → BinOp → IntKind → IntKind → Expr → Expr → Pair
usual s o a b x y =
    pair (Integer (common s.machine a b)) (Integer (common s.machine a b)) (in_kind (common s.machine a b) a x) (in_kind (common s.machine a b) b y)
    (Integer (result_kind o (common s.machine a b)))

-- each promoted alone (C11 6.5.7p3)
abbrev pub promoted_each : Scopes → IntKind → IntKind → Expr → Expr → Pair
promoted_each s a b x y = pair (Integer (promoted s.machine a)) (Integer (promoted s.machine b)) (in_promoted s a x) (in_promoted s b y) (Integer (promoted s.machine a))

-- rule 5: elements are counted in their size
abbrev pub counted : Scopes → Span → QType → Pair → Result Pair Fault
counted s at target p = cond (is_complete s target) (Ok p) (fault 5 at)

-- rule 13: pointers to compatible types (C11 6.5.6p3), whose difference is of type ptrdiff_t
abbrev pub differenced : Scopes → Span → Qualified → Qualified → Expr → Expr → Result Pair Fault
differenced s at p q x y =
    cond (are_alike (type_in p) (type_in q)) (counted s at (type_in p) (pair (Pointer p) (Pointer q) x y (Integer kind.Long))) (fault 13 at)

abbrev pub if_alike : ℕ → Span → Bool → Pair → Result Pair Fault
if_alike rule at true p = Ok p
if_alike rule at false p = fault rule at

-- C11 6.5.8p2
abbrev pub ordered : Span → Qualified → Qualified → Expr → Expr → Result Pair Fault
ordered at p q x y = if_alike 14 at (are_alike (type_in p) (type_in q)) (pair (Pointer p) (Pointer q) x y int)

-- C11 6.5.9p2
abbrev pub equated : Span → Qualified → Qualified → Expr → Expr → Result Pair Fault
equated at p q x y =
    if_alike 15 at (are_alike (type_in p) (type_in q) || (is_void (type_in p) || is_void (type_in q))) (pair (Pointer p) (Pointer q) x y int)

-- a pointer and a null pointer constant, which becomes a pointer of the type (C11 6.5.9p5)
abbrev pub to_null : Qualified → Expr → Expr
to_null p e = tree.Convert (types.Pointer (erased_in p)) e

abbrev pub equated_left : Span → Qualified → Bool → Expr → Expr → Result Pair Fault
equated_left at p is_null x y = if_alike 15 at is_null (pair (Pointer p) (Pointer p) x (to_null p y) int)

abbrev pub equated_right : Span → Qualified → Bool → Expr → Expr → Result Pair Fault
equated_right at p is_null x y = if_alike 15 at is_null (pair (Pointer p) (Pointer p) (to_null p x) y int)

-- C11 6.5.9
abbrev pub equal_as : Scopes → Span → BinOp → QType → QType → Value → Value → Result Pair Fault
equal_as s at o (Integer a) (Integer b) v w = Ok (usual s o a b v.tree w.tree)
equal_as s at o (Pointer p) (Pointer q) v w = equated at p q v.tree w.tree
equal_as s at o (Pointer p) (Integer b) v w = equated_left at p (is_null s w) v.tree w.tree
equal_as s at o (Integer a) (Pointer q) v w = equated_right at q (is_null s v) v.tree w.tree
equal_as s at o _ _ v w = fault 15 at

-- C11 6.5.8
abbrev pub ordered_as : Scopes → Span → BinOp → QType → QType → Expr → Expr → Result Pair Fault
ordered_as s at o (Integer a) (Integer b) x y = Ok (usual s o a b x y)
ordered_as s at o (Pointer p) (Pointer q) x y = ordered at p q x y
ordered_as s at o _ _ x y = fault 14 at

-- C11 6.5.6p2
abbrev pub added_as : Scopes → Span → QType → QType → Expr → Expr → Result Pair Fault
added_as s at (Integer a) (Integer b) x y = Ok (usual s binary.Add a b x y)
added_as s at (Pointer p) (Integer b) x y = counted s at (type_in p) (pair (Pointer p) (Integer b) x y (Pointer p))
added_as s at (Integer a) (Pointer q) x y = counted s at (type_in q) (pair (Integer a) (Pointer q) x y (Pointer q))
added_as s at _ _ x y = fault 13 at

-- C11 6.5.6p3
abbrev pub subtracted_as : Scopes → Span → QType → QType → Expr → Expr → Result Pair Fault
subtracted_as s at (Integer a) (Integer b) x y = Ok (usual s binary.Sub a b x y)
subtracted_as s at (Pointer p) (Integer b) x y = counted s at (type_in p) (pair (Pointer p) (Integer b) x y (Pointer p))
subtracted_as s at (Pointer p) (Pointer q) x y = differenced s at p q x y
subtracted_as s at _ _ x y = fault 13 at

-- C11 6.5.5, 6.5.10 to 6.5.12
abbrev pub computed_as : Scopes → Span → BinOp → QType → QType → Expr → Expr → Result Pair Fault
computed_as s at o (Integer a) (Integer b) x y = Ok (usual s o a b x y)
computed_as s at o _ _ x y = fault 13 at

-- C11 6.5.7
abbrev pub shifted_as : Scopes → Span → QType → QType → Expr → Expr → Result Pair Fault
shifted_as s at (Integer a) (Integer b) x y = Ok (promoted_each s a b x y)
shifted_as s at _ _ x y = fault 13 at

abbrev pub paired : Scopes → Span → BinOp → Value → Value → Result Pair Fault
paired s at binary.Add v w = added_as s at v.qtype w.qtype v.tree w.tree
paired s at binary.Sub v w = subtracted_as s at v.qtype w.qtype v.tree w.tree
paired s at binary.Shl v w = shifted_as s at v.qtype w.qtype v.tree w.tree
paired s at binary.Shr v w = shifted_as s at v.qtype w.qtype v.tree w.tree
paired s at binary.Lt v w = ordered_as s at binary.Lt v.qtype w.qtype v.tree w.tree
paired s at binary.Le v w = ordered_as s at binary.Le v.qtype w.qtype v.tree w.tree
paired s at binary.Gt v w = ordered_as s at binary.Gt v.qtype w.qtype v.tree w.tree
paired s at binary.Ge v w = ordered_as s at binary.Ge v.qtype w.qtype v.tree w.tree
paired s at binary.Eq v w = equal_as s at binary.Eq v.qtype w.qtype v w
paired s at binary.Ne v w = equal_as s at binary.Ne v.qtype w.qtype v w
paired s at o v w = computed_as s at o v.qtype w.qtype v.tree w.tree

abbrev pub operation_as : BinOp → QType → QType → Expr → Expr → Expr
operation_as o (Integer k) (Integer l) x y = tree.Binary o k x y
operation_as o l r x y = tree.OnPointers o (erased l) (erased r) x y

abbrev pub operation : BinOp → Pair → Expr
operation o p = operation_as o p.left p.right p.first p.second

abbrev pub applied : Scopes → BinOp → Value → Value → Result Value Fault
applied s o v w = do
  p ← paired s v.at o v w
  Ok (value v.at p.result (operation o p) (suc (v.nodes + w.nodes)))

-- rule 16 of the right operand; that of the left one stands before it is looked at
abbrev pub logical : Bool → Value → Value → Result Value Fault
logical is_and v w = do
  e ← tested w
  Ok (value v.at int (tree.Logic is_and v.tree e) (suc (v.nodes + w.nodes)))

-- what is asked of the left operand before the right one is looked at
abbrev pub left_operand : BinaryOperator → Value → Result Value Fault
left_operand op.And v = do
  e ← tested v
  Ok (record v { qtype = int; tree = e })
left_operand op.Or v = do
  e ← tested v
  Ok (record v { qtype = int; tree = e })
left_operand _ v = Ok v

abbrev pub joined : Scopes → BinaryOperator → Value → Value → Result Value Fault
joined s op.Multiply v w = applied s binary.Mul v w
joined s op.Divide v w = applied s binary.Div v w
joined s op.Remainder v w = applied s binary.Rem v w
joined s op.Add v w = applied s binary.Add v w
joined s op.Subtract v w = applied s binary.Sub v w
joined s op.ShiftLeft v w = applied s binary.Shl v w
joined s op.ShiftRight v w = applied s binary.Shr v w
joined s op.Less v w = applied s binary.Lt v w
joined s op.Greater v w = applied s binary.Gt v w
joined s op.LessEqual v w = applied s binary.Le v w
joined s op.GreaterEqual v w = applied s binary.Ge v w
joined s op.Equal v w = applied s binary.Eq v w
joined s op.NotEqual v w = applied s binary.Ne v w
joined s op.BitAnd v w = applied s binary.And v w
joined s op.BitXor v w = applied s binary.Xor v w
joined s op.BitOr v w = applied s binary.Or v w
joined s op.And v w = logical true v w
joined s op.Or v w = logical false v w

-- ---- `?:` (C11 6.5.15)

-- the qualifiers of both targets
abbrev pub with_both : Qualified → Qualified → QType → Qualified
with_both (Q c v s) (Q d w u) t = Q (c || d) (v || w) t

-- two pointers: to compatible types, or one of them to void
abbrev pub joined_targets : Qualified → Qualified → Option Qualified
joined_targets p q =
    cond (are_alike (type_in p) (type_in q)) (Some (with_both p q (composite (type_in p) (type_in q))))
    (cond (is_void (type_in p) || is_void (type_in q)) (Some (with_both p q Void)) None)

abbrev pub pointer_to : Option Qualified → Option QType
pointer_to None = None
pointer_to (Some q) = Some (Pointer q)

abbrev pub if_null : Bool → QType → Option QType
if_null true t = Some t
if_null false t = None

abbrev pub same_composite : Bool → ℕ → Option QType
same_composite true n = Some (Composite n)
same_composite false n = None

-- a null pointer constant takes the other's type (p6)
abbrev pub joined_pointers : Bool → Bool → Qualified → Qualified → Option QType
joined_pointers true false p q = Some (Pointer q)
joined_pointers false true p q = Some (Pointer p)
joined_pointers _ _ p q = pointer_to (joined_targets p q)

-- the type of both branches, or none
abbrev pub branch_type : Scopes → QType → QType → Bool → Bool → Option QType
branch_type s (Integer a) (Integer b) m n = Some (Integer (common s.machine a b))
branch_type s (Pointer p) (Pointer q) m n = joined_pointers m n p q
branch_type s (Pointer p) (Integer b) m n = if_null n (Pointer p)
branch_type s (Integer a) (Pointer q) m n = if_null m (Pointer q)
branch_type s Void Void m n = Some Void
branch_type s (Composite a) (Composite b) m n = same_composite (are_alike (Composite a) (Composite b)) a
branch_type s _ _ m n = None

-- a branch in the type of both, to which it converts
abbrev pub in_branch : QType → QType → Expr → Expr
in_branch (Integer k) (Integer l) e = in_kind k l e
in_branch (Pointer p) (Pointer q) e = in_pointer p q e
in_branch (Pointer p) (Integer k) e = to_null p e
in_branch _ _ e = e

-- rule 17
abbrev pub conditional_as : Span → Expr → Value → Value → ℕ → Option QType → Result Operand Fault
conditional_as at c v w nodes None = fault 17 at
conditional_as at c v w nodes (Some t) =
    Ok (Of (value at t (tree.Conditional (erased t) c (in_branch t v.qtype v.tree) (in_branch t w.qtype w.tree)) nodes))

abbrev pub conditional : Scopes → Span → Expr → ℕ → Value → Value → Result Operand Fault
conditional s at c nodes v w = conditional_as at c v w (suc (nodes + (v.nodes + w.nodes))) (branch_type s v.qtype w.qtype (is_null s v) (is_null s w))

-- ---- assignments (C11 6.5.16) and `,` (C11 6.5.17)

abbrev pub assignment : Scopes → Span → Place → Value → Result Operand Fault
assignment s at p v = do
  e ← converted_to s (type_in p.qualified) v
  Ok (Of (value at (type_in p.qualified) (assignment_of (erased_in p.qualified) p.tree e) (suc (p.nodes + v.nodes))))

abbrev pub operator_of : AssignmentOperator → Option BinOp
operator_of assigning.Plain = None
operator_of assigning.Multiply = Some binary.Mul
operator_of assigning.Divide = Some binary.Div
operator_of assigning.Remainder = Some binary.Rem
operator_of assigning.Add = Some binary.Add
operator_of assigning.Subtract = Some binary.Sub
operator_of assigning.ShiftLeft = Some binary.Shl
operator_of assigning.ShiftRight = Some binary.Shr
operator_of assigning.BitAnd = Some binary.And
operator_of assigning.BitXor = Some binary.Xor
operator_of assigning.BitOr = Some binary.Or

-- rule 13: a pointer takes an integer, and an integer's place no pointer (C11 6.5.16.2p1)
abbrev pub suits_place : QType → QType → Bool
suits_place (Integer k) (Integer l) = true
suits_place (Pointer p) (Pointer q) = true
suits_place _ _ = false

abbrev pub compounded : Span → BinOp → Place → Value → Pair → Result Operand Fault
compounded at o p v c =
    cond (suits_place (type_in p.qualified) c.result)
    (Ok (Of (value at (type_in p.qualified) (tree.Compound o (erased_in p.qualified) (erased c.left) (erased c.right) p.tree c.second) (suc (p.nodes + v.nodes)))))
    (fault 13 at)

-- what the place holds, as the left operand
abbrev pub compound : Scopes → Span → BinOp → Place → Value → Result Operand Fault
compound s at o p v = do
  l ← valued s (At p)
  c ← paired s at o l v
  compounded at o p v c

abbrev pub assigned : Scopes → Span → Option BinOp → Place → Value → Result Operand Fault
assigned s at None p v = assignment s at p v
assigned s at (Some o) p v = compound s at o p v

-- what is discarded, and what stands behind the comma
abbrev pub behind_comma : Value → Value → Value
behind_comma v w = value v.at w.qtype (tree.Comma v.tree w.tree) (suc (v.nodes + w.nodes))
