-- Compatible types (C11 6.2.7p1, 6.7.6.1p2, 6.7.6.2p6, 6.7.6.3p15).
use Rattle.std.specs.Prelude.{ℕ, ◌==◌, Bool, true, false, cond, ◌&&◌, ◌||◌, Option, None, Some}
use Rattle.c_base.specs.declared.integer.IntKind.{IntKind}
use Rattle.c_base.specs.declared.integer.IntKind.TheVariants.{Bool as bool_kind, Char, SChar, UChar, Short, UShort, Int, UInt, Long, ULong, LLong, ULLong}
use Rattle.c_types.specs.Types.{CType, CTypes, Void, Integer, Pointer, Array, Composite, Function, Nil, Next}

-- the place of an integer type among them
abbrev pub kind_number : IntKind → ℕ
kind_number bool_kind = 0
kind_number Char = 1
kind_number SChar = 2
kind_number UChar = 3
kind_number Short = 4
kind_number UShort = 5
kind_number Int = 6
kind_number UInt = 7
kind_number Long = 8
kind_number ULong = 9
kind_number LLong = 10
kind_number ULLong = 11

-- bounds that are equal, or of which one isn't given
abbrev pub same_bound : ℕ → ℕ → Bool
same_bound m n = (m == n) || ((m == 0) || (n == 0))

abbrev pub same_truth : Bool → Bool → Bool
same_truth v w = cond v w (cond w false true)

-- whether a type is void or of an integer type, and what it is made of where it is another
abbrev pub is_void : CType → Bool
is_void Void = true
is_void t = false

abbrev pub has_kind : IntKind → CType → Bool
has_kind k (Integer l) = kind_number k == kind_number l
has_kind k t = false

abbrev pub has_number : ℕ → CType → Bool
has_number m (Composite n) = m == n
has_number m t = false

abbrev pub target_of : CType → Option CType
target_of (Pointer t) = Some t
target_of t = None

abbrev pub elements_of : CType → Option (CType × ℕ)
elements_of (Array t n) = Some (t, n)
elements_of t = None

abbrev pub signature_of : CType → Option (CType × CTypes × Bool)
signature_of (Function r ps v) = Some (r, ps, v)
signature_of t = None

abbrev pub where_some : {A : Type 0} → (A → Bool) → Option A → Bool
where_some test None = false
where_some test (Some a) = test a

abbrev mutual
  pub is_compatible : CType → CType → Bool
  is_compatible Void t = is_void t
  is_compatible (Integer k) t = has_kind k t
  is_compatible (Pointer s) t = where_some (λ u. is_compatible s u) (target_of t)
  is_compatible (Array s m) t = where_some (λ u. is_compatible s u.0 && same_bound m u.1) (elements_of t)
  is_compatible (Composite m) t = has_number m t
  is_compatible (Function r ps v) t = where_some (λ u. is_compatible r u.0 && (are_compatible ps u.1 && same_truth v u.2)) (signature_of t)

  pub are_compatible : CTypes → CTypes → Bool
  are_compatible Nil Nil = true
  are_compatible Nil (Next t rest) = false
  are_compatible (Next s more) Nil = false
  are_compatible (Next s more) (Next t rest) = is_compatible s t && are_compatible more rest
