-- Sets of kinds.
use Rattle.std.specs.Prelude.{ℕ, ◌^◌, ◌==◌, Bool, bit_or}
use Rattle.std.specs.Int.{bit_at}
use Rattle.c_base.specs.declared.kind.Kind.{Kind}
use Rattle.c_base.specs.declared.kind.Kind.TheVariants.{DivisionByZero, SignedOverflow, Shift, MemAccess, IndexBound, Initialization, DanglingPointer, PtrComparison, DifferingBlocks, Overlap, FunctionPointer, Assertion, Precondition, Postcondition}
use Rattle.c_base.specs.declared.kind.KindSet.{KindSet}

-- the place of the kind in the order of kinds
abbrev pub number_of_kind : Kind → ℕ
number_of_kind DivisionByZero = 0
number_of_kind SignedOverflow = 1
number_of_kind Shift = 2
number_of_kind MemAccess = 3
number_of_kind IndexBound = 4
number_of_kind Initialization = 5
number_of_kind DanglingPointer = 6
number_of_kind PtrComparison = 7
number_of_kind DifferingBlocks = 8
number_of_kind Overlap = 9
number_of_kind FunctionPointer = 10
number_of_kind Assertion = 11
number_of_kind Precondition = 12
number_of_kind Postcondition = 13

-- the set has the kind
abbrev pub allowed : KindSet → Kind → Bool
allowed s k = bit_at s.bits (number_of_kind k) == 1

abbrev pub no_kinds : KindSet
no_kinds = record { bits = 0 }

abbrev pub with_kind : KindSet → Kind → KindSet
with_kind s k = record { bits = bit_or s.bits (2 ^ number_of_kind k) }
