-- The type of each expression and lvalue, and none where it is ill typed (C11 6.5). Values stand converted: what an operator asks for is of the
-- very type, up to bounds of arrays that aren't given.
use Rattle.std.specs.Prelude.{ℕ, ◌==◌, Bool, true, false, not, cond, ◌&&◌, ◌||◌, nat_le, List, [], ◌∷◌, ℤ, Option, None, Some, is_some, option_map, slice_get}
use Rattle.c_base.specs.declared.integer.IntKind.{IntKind}
use Rattle.c_base.specs.declared.integer.IntKind.TheVariants.{Int, Long}
use Rattle.c_base.specs.declared.integer.Machine.TheVariants.{Lp64}
use Rattle.c_base.specs.declared.operators.BinOp.{BinOp}
use Rattle.c_base.specs.declared.operators.BinOp.TheVariants.{Add, Sub, Mul, Div, Rem, And, Or, Xor, Shl, Shr, Lt, Le, Gt, Ge, Eq, Ne}
use Rattle.c_base.specs.declared.operators.UnOp.{UnOp}
use Rattle.c_base.specs.declared.operators.UnOp.TheVariants.{Neg, Not, Compl}
use Rattle.c_base.specs.Integers.{size_of_kind, is_signed, width_of, fits_bits}
use Rattle.c_memory.specs.declared.scalar.Scalar.{Scalar}
use Rattle.c_memory.specs.declared.scalar.Scalar.TheVariants as scalar
use Rattle.c_memory.specs.Operations.{is_comparison}
use Rattle.c_types.specs.Types.{CType, CTypes, Void, Integer, Pointer, Array, Composite, Function, Nil, Next, Member as MemberData, Composite', scalar_of}
use Rattle.c_types.specs.Sizes.{extent}
use Rattle.c_types.specs.Compatible.{is_compatible, has_kind, signature_of}
use Rattle.c_program.specs.Syntax.{Lvalue, Variable, Pointed, Temporary, Member, Element, ElementOf, Expr, Number, Load, Binary, Assign, LoadCells, AssignCells, Address, Unary, Convert, OnPointers, Logic, Conditional, Compound, Step, Comma, Call, Exprs, NoExpr, NextExpr, Base, base_at, Program}

-- an answer where a test holds, and one behind another
abbrev pub if_so : {A : Type 0} → Bool → A → Option A
if_so test a = cond test (Some a) None

infixl 10 ◌>>=◌
abbrev pub ◌>>=◌ : {A B : Type 0} → Option A → (A → Option B) → Option B
None >>= f = None
(Some a) >>= f = f a

-- ---- types

-- operands of these types are of int or above (C11 6.3.1.1p2)
abbrev pub is_promoted : IntKind → Bool
is_promoted kind = nat_le (size_of_kind Int Lp64) (size_of_kind kind Lp64)

abbrev pub is_integer : CType → Bool
is_integer (Integer kind) = true
is_integer t = false

abbrev pub is_pointer : CType → Bool
is_pointer (Pointer to) = true
is_pointer t = false

abbrev pub is_scalar : CType → Bool
is_scalar t = is_some (scalar_of t)

abbrev pub is_composite : CType → Bool
is_composite (Composite number) = true
is_composite t = false

abbrev pub is_void : CType → Bool
is_void Void = true
is_void t = false

-- what a value may have as its type: no array, and no function (C11 6.3.2.1)
abbrev pub is_value_type : CType → Bool
is_value_type t = is_scalar t || (is_composite t || is_void t)

abbrev pub is_of_scalar : Scalar → CType → Bool
is_of_scalar (scalar.Integer kind) t = has_kind kind t
is_of_scalar scalar.Pointer t = is_pointer t

-- an expression of type int for a truth (C11 6.5.3.3p5, 6.5.8p6)
abbrev pub truth_type : CType
truth_type = Integer Int

-- what `-`, `!` and `~` give
abbrev pub unary_type : UnOp → IntKind → CType
unary_type Neg kind = Integer kind
unary_type Not kind = truth_type
unary_type Compl kind = Integer kind

-- what an operator on integers gives
abbrev pub binary_type : BinOp → IntKind → CType
binary_type op kind = cond (is_comparison op) truth_type (Integer kind)

abbrev pub is_shift : BinOp → Bool
is_shift Shl = true
is_shift Shr = true
is_shift op = false

-- a shift's count has a type of its own (C11 6.5.7p3)
abbrev pub suits_right : BinOp → IntKind → CType → Bool
suits_right op kind t = cond (is_shift op) (is_integer t) (has_kind kind t)

module _ (p : Program) where
  abbrev pub is_complete : CType → Bool
  is_complete t = is_some (extent p.composites p.machine t)

  -- what a pointer points to, where elements are counted (C11 6.5.6p2)
  abbrev pub counted_target : CType → Option CType
  counted_target (Pointer to) = if_so (is_complete to) to
  counted_target t = None

  abbrev pub target : CType → Option CType
  target (Pointer to) = Some to
  target t = None

  abbrev pub are_alike : Option CType → Option CType → Bool
  are_alike None t = false
  are_alike (Some s) None = false
  are_alike (Some s) (Some t) = is_compatible s t

  -- a `void` pointer may be compared with any (C11 6.5.9p2)
  abbrev pub may_be_equal : Option CType → Option CType → Bool
  may_be_equal None t = false
  may_be_equal (Some s) None = false
  may_be_equal (Some s) (Some t) = is_compatible s t || (is_void s || is_void t)

  abbrev pub moved_type : CType → CType → Option CType
  moved_type pointer count = do
    to ← counted_target pointer
    if_so (is_integer count) (Pointer to)

  abbrev pub first_of : Option CType → Option CType → Option CType
  first_of None t = t
  first_of (Some s) t = Some s

  -- what an operator with a pointer among its operands gives (C11 6.5.6, 6.5.8, 6.5.9)
  abbrev pub pointer_type : BinOp → CType → CType → Option CType
  pointer_type Add left right = first_of (moved_type left right) (moved_type right left)
  pointer_type Sub left right = first_of (moved_type left right) (if_so (are_alike (counted_target left) (counted_target right)) (Integer Long))
  pointer_type Lt left right = if_so (are_alike (target left) (target right)) truth_type
  pointer_type Le left right = if_so (are_alike (target left) (target right)) truth_type
  pointer_type Gt left right = if_so (are_alike (target left) (target right)) truth_type
  pointer_type Ge left right = if_so (are_alike (target left) (target right)) truth_type
  pointer_type Eq left right = if_so (may_be_equal (target left) (target right)) truth_type
  pointer_type Ne left right = if_so (may_be_equal (target left) (target right)) truth_type
  pointer_type op left right = None

  -- what an operator gives on operands of these types
  abbrev pub operator_type : BinOp → CType → CType → Option CType
  operator_type op (Integer kind) (Integer other) = if_so (is_promoted kind && suits_right op kind (Integer other)) (binary_type op kind)
  operator_type op left right = pointer_type op left right

  abbrev pub member_type : Option Composite' → ℕ → Option CType
  member_type None m = None
  member_type (Some c) m = option_map (λ member. member.ctype) (slice_get c.members m)

  -- an array of so many elements, one of which may be named
  abbrev pub element_type : CType → CType → ℕ → Option CType
  element_type (Array of count) t n = if_so (is_compatible of t && (count == n) && is_complete t) t
  element_type s t n = None

  -- an array as a pointer to its first element, too
  abbrev pub is_addressed_as : CType → CType → Bool
  is_addressed_as (Array of count) t = is_compatible of t || is_compatible (Array of count) t
  is_addressed_as s t = is_compatible s t

  -- what is converted to what (C11 6.3, 6.5.4p2): scalars to scalars, anything to void
  abbrev pub may_convert : CType → CType → Bool
  may_convert s t = (is_scalar s && is_scalar t) || is_void t

  abbrev pub suits_step : CType → Bool
  suits_step (Integer kind) = true
  suits_step (Pointer to) = is_complete to
  suits_step t = false

  abbrev mutual
    pub type_of : Expr → Option CType
    type_of (Number kind n) = if_so (fits_bits (is_signed kind) (width_of kind p.machine) n) (Integer kind)
    type_of (Load type q) = do
      t ← place_type q
      if_so (is_of_scalar type t) t
    type_of (Binary op kind a b) = do
      s ← type_of a
      t ← type_of b
      if_so (has_kind kind s && (is_promoted kind && suits_right op kind t)) (binary_type op kind)
    type_of (Assign type q e) = do
      t ← place_type q
      s ← type_of e
      if_so (is_of_scalar type t && is_compatible s t) t
    type_of (LoadCells t q) = do
      s ← place_type q
      if_so (is_composite t && (is_complete t && is_compatible s t)) t
    type_of (AssignCells t q e) = do
      r ← place_type q
      s ← type_of e
      if_so (is_composite t && (is_complete t && (is_compatible r t && is_compatible s t))) t
    type_of (Address t q) = do
      s ← place_type q
      if_so (is_addressed_as s t) (Pointer t)
    type_of (Unary op kind e) = do
      t ← type_of e
      if_so (has_kind kind t && is_promoted kind) (unary_type op kind)
    type_of (Convert t e) = do
      s ← type_of e
      if_so (may_convert s t) t
    type_of (OnPointers op left right a b) = do
      s ← type_of a
      t ← type_of b
      r ← pointer_type op left right
      if_so (is_compatible s left && is_compatible t right) r
    type_of (Logic is_and a b) = do
      s ← type_of a
      t ← type_of b
      if_so (is_integer s && is_integer t) truth_type
    type_of (Conditional t a b c) = do
      r ← type_of a
      s ← type_of b
      u ← type_of c
      if_so (is_integer r && (is_value_type t && (is_compatible s t && is_compatible u t))) t
    type_of (Compound op t left right q e) = do
      s ← place_type q
      u ← type_of e
      r ← operator_type op left right
      if_so (is_scalar t && (is_compatible s t && (may_convert t left && (is_compatible u right && may_convert r t)))) t
    type_of (Step up behind t q) = do
      s ← place_type q
      if_so (is_compatible s t && suits_step t) t
    type_of (Comma a b) = do
      s ← type_of a
      type_of b
    type_of (Call site t q arguments) = do
      s ← place_type q
      signature ← signature_of s
      args ← are_passed signature.1 signature.2 arguments
      if_so (is_compatible signature.0 t && is_value_type t) t

    -- the type of what stands at a place
    pub place_type : Lvalue → Option CType
    place_type (Variable base) = option_map (λ b. b.ctype) (base_at p.bases base)
    place_type (Pointed e t volatile) = do
      s ← type_of e
      to ← target s
      if_so (is_compatible to t && not (is_void t)) t
    place_type (Temporary e t) = do
      s ← type_of e
      if_so (is_compatible s t) t
    place_type (Member q c m) = do
      s ← place_type q
      t ← member_type (slice_get p.composites c) m
      if_so (is_compatible s (Composite c)) t
    place_type (Element q e t n end) = do
      s ← place_type q
      i ← type_of e
      r ← element_type s t n
      if_so (is_integer i) r
    place_type (ElementOf e q t n end) = do
      i ← type_of e
      s ← place_type q
      r ← element_type s t n
      if_so (is_integer i) r

    -- the arguments have the types of the parameters; more of them may follow where the type says so (C11 6.5.2.2p2)
    pub are_passed : CTypes → Bool → Exprs → Option Bool
    are_passed Nil variadic NoExpr = Some true
    are_passed Nil variadic (NextExpr e more) = do
      t ← type_of e
      rest ← are_passed Nil variadic more
      if_so (variadic && is_value_type t) true
    are_passed (Next t params) variadic NoExpr = None
    are_passed (Next t params) variadic (NextExpr e more) = do
      s ← type_of e
      rest ← are_passed params variadic more
      if_so (is_compatible s t) true
