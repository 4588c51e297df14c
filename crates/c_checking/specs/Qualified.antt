-- Types with their qualifiers (C11 6.2.5, 6.7.3), as far as they matter: `const` where something is stored, `volatile` where it is loaded,
-- and both where pointers are compared. Enumerations are int (C11 6.7.2.2p4).
use Rattle.std.specs.Prelude.{ℕ, ◌==◌, Bool, true, false, cond, ◌&&◌, ◌||◌}
use Rattle.c_base.specs.declared.integer.IntKind.{IntKind}
use Rattle.c_types.specs.Types as types
use Rattle.c_types.specs.Compatible.{kind_number, same_bound, same_truth}

mutual
  pub data QType : Type 0 where
    Void : QType
    Integer : IntKind → QType
    Pointer : Qualified → QType
    -- of 0 elements where the bound isn't given
    Array : Qualified → ℕ → QType
    -- a struct or union, by its number
    Composite : ℕ → QType
    -- The result, the parameters, and whether more arguments may follow. Neither the result nor a parameter has qualifiers of its own
    -- (C11 6.7.6.3p15).
    Function : QType → QTypes → Bool → QType

  -- `const`, `volatile`, and what they qualify
  pub data Qualified : Type 0 where
    Q : Bool → Bool → QType → Qualified

  pub data QTypes : Type 0 where
    Nil : QTypes
    Next : QType → QTypes → QTypes

abbrev pub type_in : Qualified → QType
type_in (Q constant volatile t) = t

abbrev pub is_constant : Qualified → Bool
is_constant (Q constant volatile t) = constant

abbrev pub is_volatile : Qualified → Bool
is_volatile (Q constant volatile t) = volatile

abbrev pub plain : QType → Qualified
plain t = Q false false t

-- More qualifiers. Those of an array are those of its elements (C11 6.7.3p9), and functions have none.
abbrev mutual
  pub qualified : Bool → Bool → QType → Qualified
  qualified c v (Array of count) = Q false false (Array (further c v of) count)
  qualified c v (Function result params variadic) = Q false false (Function result params variadic)
  qualified c v t = Q c v t

  pub further : Bool → Bool → Qualified → Qualified
  further c v (Q d w t) = qualified (c || d) (v || w) t

-- ---- without qualifiers

abbrev mutual
  pub erased : QType → types.CType
  erased Void = types.Void
  erased (Integer kind) = types.Integer kind
  erased (Pointer to) = types.Pointer (erased_in to)
  erased (Array of count) = types.Array (erased_in of) count
  erased (Composite number) = types.Composite number
  erased (Function result params variadic) = types.Function (erased result) (erased_all params) variadic

  pub erased_in : Qualified → types.CType
  erased_in (Q constant volatile t) = erased t

  pub erased_all : QTypes → types.CTypes
  erased_all Nil = types.Nil
  erased_all (Next t more) = types.Next (erased t) (erased_all more)

-- ---- sorts of types

abbrev pub is_void : QType → Bool
is_void Void = true
is_void _ = false

abbrev pub is_integer : QType → Bool
is_integer (Integer kind) = true
is_integer _ = false

-- integers and pointers (C11 6.2.5p21)
abbrev pub is_scalar : QType → Bool
is_scalar (Integer kind) = true
is_scalar (Pointer to) = true
is_scalar _ = false

abbrev pub is_function : QType → Bool
is_function (Function result params variadic) = true
is_function _ = false

abbrev pub is_array : QType → Bool
is_array (Array of count) = true
is_array _ = false

-- ---- compatible types (C11 6.2.7p1, 6.7.3p10, 6.7.6.1p2, 6.7.6.2p6, 6.7.6.3p15)

abbrev pub same_kind : IntKind → IntKind → Bool
same_kind k l = kind_number k == kind_number l

abbrev mutual
  pub are_alike : QType → QType → Bool
  are_alike Void Void = true
  are_alike (Integer k) (Integer l) = same_kind k l
  are_alike (Pointer p) (Pointer q) = are_qualified_alike p q
  are_alike (Array p m) (Array q n) = are_qualified_alike p q && same_bound m n
  are_alike (Composite m) (Composite n) = m == n
  are_alike (Function r ps v) (Function s qs w) = are_alike r s && (are_all_alike ps qs && same_truth v w)
  are_alike _ _ = false

  pub are_qualified_alike : Qualified → Qualified → Bool
  are_qualified_alike (Q c v s) (Q d w t) = (same_truth c d && same_truth v w) && are_alike s t

  pub are_all_alike : QTypes → QTypes → Bool
  are_all_alike Nil Nil = true
  are_all_alike (Next s more) (Next t rest) = are_alike s t && are_all_alike more rest
  are_all_alike _ _ = false

-- ---- the composite of compatible types, which knows what either knows (C11 6.2.7p3)

abbrev pub known_bound : ℕ → ℕ → ℕ
known_bound m n = cond (m == 0) n m

abbrev mutual
  pub composite : QType → QType → QType
  composite (Pointer p) (Pointer q) = Pointer (composite_in p q)
  composite (Array p m) (Array q n) = Array (composite_in p q) (known_bound m n)
  composite (Function r ps v) (Function s qs w) = Function (composite r s) (composites ps qs) v
  composite t _ = t

  pub composite_in : Qualified → Qualified → Qualified
  composite_in (Q c v s) (Q d w t) = Q c v (composite s t)

  pub composites : QTypes → QTypes → QTypes
  composites (Next s more) (Next t rest) = Next (composite s t) (composites more rest)
  composites ts _ = ts
