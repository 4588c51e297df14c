-- C's types without qualifiers, as plain trees (C11 6.2.5).
use Rattle.std.specs.Prelude.{ℕ, Bool, List, Option, None, Some}
use Rattle.c_base.specs.declared.integer.IntKind.{IntKind}
use Rattle.c_memory.specs.declared.scalar.Scalar.{Scalar}
use Rattle.c_memory.specs.declared.scalar.Scalar.TheVariants as scalar

mutual
  pub data CType : Type 0 where
    Void : CType
    Integer : IntKind → CType
    Pointer : CType → CType
    -- of 0 elements where the bound isn't given
    Array : CType → ℕ → CType
    -- a struct or union, by its number
    Composite : ℕ → CType
    -- the result, the parameters, and whether more arguments may follow
    Function : CType → CTypes → Bool → CType

  pub data CTypes : Type 0 where
    Nil : CTypes
    Next : CType → CTypes → CTypes

-- bytes of an object, and of which number its place in a struct is a multiple
pub record Extent : Type 0 where
  pub size : ℕ
  pub align : ℕ

pub record Member : Type 0 where
  pub name : List ℕ
  pub ctype : CType
  pub volatile : Bool

-- A struct or union with its members and what its objects take. An incomplete one has no members and no extent.
pub record Composite' : Type 0 where
  pub name : List ℕ
  pub is_union : Bool
  pub members : List Member
  pub extent : Option Extent

-- the scalar types: integers and pointers (C11 6.2.5p21)
abbrev pub scalar_of : CType → Option Scalar
scalar_of Void = None
scalar_of (Integer kind) = Some (scalar.Integer kind)
scalar_of (Pointer to) = Some scalar.Pointer
scalar_of (Array of count) = None
scalar_of (Composite number) = None
scalar_of (Function result params variadic) = None
