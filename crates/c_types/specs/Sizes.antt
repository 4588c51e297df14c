-- Sizes, alignments and the places of members (C11 6.5.3.4, 6.7.2.1p15 to p17; natural alignment, as on x86-64).
use Rattle.std.specs.Prelude.{ℕ, zero, suc, ◌+◌, ◌-◌, ◌*◌, ◌%◌, ◌^◌, ◌≤◌, ◌<◌, ◌≡◌, max, Bool, true, false, List, [], ◌∷◌, length, Option, None, Some, slice_get}
use Rattle.std.specs.List.{AllByRecursion}
use Rattle.c_base.specs.declared.integer.Machine.{Machine}
use Rattle.c_base.specs.Integers.{size_of_kind, size_of_long}
use Rattle.c_types.specs.Types.{CType, CTypes, Void, Integer, Pointer, Array, Composite, Function, Extent, Member, Composite'}

abbrev pub extent_from : ℕ → ℕ → Option Extent
extent_from size align = Some (record { size = size; align = align })

-- what an array of so many elements takes; one without a bound has no size
abbrev pub repeated : ℕ → Option Extent → Option Extent
repeated count None = None
repeated zero (Some e) = None
repeated (suc n) (Some e) = extent_from (suc n * e.size) e.align

abbrev pub extent_at : Option Composite' → Option Extent
extent_at None = None
extent_at (Some c) = c.extent

-- What an object of the type takes. There is nothing for void, for functions, and for incomplete types (C11 6.5.3.4p1).
abbrev pub extent : List Composite' → Machine → CType → Option Extent
extent composites machine Void = None
extent composites machine (Integer kind) = extent_from (size_of_kind kind machine) (size_of_kind kind machine)
extent composites machine (Pointer to) = extent_from (size_of_long machine) (size_of_long machine)
extent composites machine (Array of count) = repeated count (extent composites machine of)
extent composites machine (Composite number) = extent_at (slice_get composites number)
extent composites machine (Function result params variadic) = None

abbrev pub size_in : Option Extent → ℕ
size_in None = 0
size_in (Some e) = e.size

-- bytes of an object of the type (C11 6.5.3.4p2)
abbrev pub size : List Composite' → Machine → CType → ℕ
size composites machine t = size_in (extent composites machine t)

-- the least multiple of the alignment that is not below n
abbrev pub rounded_up : ℕ → ℕ → ℕ
rounded_up n align = n + (align - 1) - (n + (align - 1)) % align

-- where a member begins behind what stands before it: at the least multiple of its alignment, and in a union at the beginning
abbrev pub start : Bool → ℕ → Extent → ℕ
start true end e = 0
start false end e = rounded_up end e.align

-- what members take that were placed so far, with one more: the end and the alignment so far
abbrev pub placed : Bool → Extent → Extent → Extent
placed is_union before e = record { size = max before.size (start is_union before.size e + e.size); align = max before.align e.align }

abbrev pub after : Bool → Option Extent → Option Extent → Option Extent
after is_union None member = None
after is_union (Some before) None = None
after is_union (Some before) (Some e) = Some (placed is_union before e)

-- the members one after the other, each with the extent that `known` gives its type
abbrev pub placed_all : (CType → Option Extent) → Bool → Option Extent → List Member → Option Extent
placed_all known is_union before [] = before
placed_all known is_union before (m ∷ more) = placed_all known is_union (after is_union before (known m.ctype)) more

abbrev pub nothing_placed : Option Extent
nothing_placed = extent_from 0 1

-- the end rounded up to the alignment (C11 6.7.2.1p17)
abbrev pub filled : Option Extent → Option Extent
filled None = None
filled (Some e) = extent_from (rounded_up e.size e.align) e.align

-- what a struct or union of these members takes; one without members is incomplete
abbrev pub closed : (CType → Option Extent) → Bool → List Member → Option Extent
closed known is_union [] = None
closed known is_union (m ∷ more) = filled (placed_all known is_union nothing_placed (m ∷ more))

abbrev pub start_at : Bool → Option Extent → Option Extent → ℕ
start_at is_union None member = 0
start_at is_union (Some before) None = 0
start_at is_union (Some before) (Some e) = start is_union before.size e

-- where member n begins
abbrev pub start_of : (CType → Option Extent) → Bool → Option Extent → List Member → ℕ → ℕ
start_of known is_union before [] n = 0
start_of known is_union before (m ∷ more) zero = start_at is_union before (known m.ctype)
start_of known is_union before (m ∷ more) (suc n) = start_of known is_union (after is_union before (known m.ctype)) more n

abbrev pub offset_in : (CType → Option Extent) → Option Composite' → ℕ → ℕ
offset_in known None n = 0
offset_in known (Some c) n = start_of known c.is_union nothing_placed c.members n

-- the byte offset of member n in the struct or union with that number (C11 6.7.2.1p15 and p16)
abbrev pub offset : List Composite' → Machine → ℕ → ℕ → ℕ
offset composites machine number n = offset_in (extent composites machine) (slice_get composites number) n

-- the struct or union that an object of the type holds without a pointer between
abbrev pub held_composite : CType → Option ℕ
held_composite Void = None
held_composite (Integer kind) = None
held_composite (Pointer to) = None
held_composite (Array of count) = held_composite of
held_composite (Composite number) = Some number
held_composite (Function result params variadic) = None

-- what a member holds has a smaller rank
pub record RanksBelow (rank : ℕ → ℕ) (number : ℕ) (m : Member) : Type 0 where
  pub held : (k : ℕ) → held_composite m.ctype ≡ Some k → rank k < rank number

-- Each struct or union has the extent that its members give it, and none holds itself: there is a rank that falls from each one to
-- those that it holds (C11 6.7.2.1p3). So extents are determined by the members alone.
pub record AreSized (composites : List Composite') (machine : Machine) : Type 0 where
  pub rank : ℕ → ℕ
  pub extents : (number : ℕ) (c : Composite') → slice_get composites number ≡ Some c →
      (c.extent ≡ closed (extent composites machine) c.is_union c.members) × AllByRecursion (RanksBelow rank number) c.members

-- there is a size, and it is at most 2^62
abbrev pub IsSized : Option Extent → Type 0
IsSized None = ⊥
IsSized (Some e) = e.size ≤ 2 ^ 62

-- the struct or union has a size and so many members and more
abbrev pub IsSizedMember : Option Composite' → ℕ → Type 0
IsSizedMember None n = ⊥
IsSizedMember (Some c) n = IsSized c.extent × (n < length c.members)
