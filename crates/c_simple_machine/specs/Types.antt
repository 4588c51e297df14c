-- The types of expressions without effects, and of what stands at places; none where something is missing. What a slot holds has a type in
-- each place of the program where it is held.
use Rattle.std.specs.Prelude.{ℕ, ◌==◌, Bool, true, false, cond, List, [], ◌∷◌, Option, None, Some, option_map, slice_get, unwrap_or}
use Rattle.c_base.specs.declared.operators.UnOp.{UnOp}
use Rattle.c_types.specs.Types.{CType, Void, Integer, Pointer, Array}
use Rattle.c_program.specs.Syntax.{base_at, Program}
use Rattle.c_program.specs.Typing.{unary_type, operator_type, member_type}
use Rattle.c_machine.specs.Unfolding.{volatile_base, volatile_member}
use Rattle.c_simple.specs.Trees.{Lvalue, Variable, Slot, Pointed, Member, Element, Expr, Number, Address, Load, Held, Unary, Binary, Convert}

abbrev pub slot_type : List (ℕ × CType) → ℕ → Option CType
slot_type [] slot = None
slot_type (s ∷ more) slot = cond (s.0 == slot) (Some s.1) (slot_type more slot)

abbrev pub one_type : UnOp → CType → CType
one_type op (Integer kind) = unary_type op kind
one_type op t = t

-- the elements of an array: their type, and how many there are
abbrev pub elements_of : Option CType → CType × ℕ
elements_of None = (Void, 0)
elements_of (Some (Array of count)) = (of, count)
elements_of (Some t) = (Void, 0)

-- what a pointer points to
abbrev pub target_of : Option CType → CType
target_of None = Void
target_of (Some (Pointer to)) = to
target_of (Some t) = Void

module _ (p : Program) (slots : List (ℕ × CType)) where
  abbrev mutual
    pub expr_type : Expr → Option CType
    expr_type (Number kind n) = Some (Integer kind)
    expr_type (Address q) = option_map Pointer (place_type q)
    expr_type (Load q) = place_type q
    expr_type (Held slot) = slot_type slots slot
    expr_type (Unary op t e) = Some (one_type op t)
    expr_type (Binary op t a b) = operator_type p op t (unwrap_or (expr_type b) Void)
    expr_type (Convert t e) = Some t

    pub place_type : Lvalue → Option CType
    place_type (Variable base) = option_map (λ b. b.ctype) (base_at p.bases base)
    place_type (Slot slot t) = Some t
    place_type (Pointed e t volatile) = Some t
    place_type (Member q c m) = member_type p (slice_get p.composites c) m
    place_type (Element q e) = Some (elements_of (place_type q)).0

-- a load from the place may give any value (C11 6.7.3p7)
abbrev pub is_volatile : Program → Lvalue → Bool
is_volatile p (Variable base) = volatile_base (base_at p.bases base)
is_volatile p (Slot slot t) = false
is_volatile p (Pointed e t volatile) = volatile
is_volatile p (Member q c m) = cond (is_volatile p q) true (volatile_member (slice_get p.composites c) m)
is_volatile p (Element q e) = is_volatile p q

-- the place is in an object that the program names, which only an initialiser of it stores in where it can't be written
abbrev pub is_named : Lvalue → Bool
is_named (Variable base) = true
is_named (Slot slot t) = false
is_named (Pointed e t volatile) = false
is_named (Member q c m) = is_named q
is_named (Element q e) = is_named q
