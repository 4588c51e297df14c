-- Pointers moved by integers, as plain functions (C11 6.5.6).
use Rattle.std.specs.Prelude.{ℕ, ◌^◌, Bool, true, false, cond, List, [], ◌∷◌, map, ℤ, pos, neg_ℤ, ◌+ℤ◌, ◌-ℤ◌, ◌≤ℤ◌, Option, None, Some}
use Rattle.std.specs.List.{list_all}
use Rattle.c_base.specs.declared.integer.Machine.{Machine}
use Rattle.c_memory.specs.Values.{Value}
use Rattle.c_pointers.specs.Conversions.{address_number}
use Rattle.c_pointers.specs.Pointers.{moved, moved_back}
use Rattle.ival_core.specs.declared.value.Shape.{Shape}
use Rattle.ival_core.specs.declared.value.Shape.TheVariants.{Few}
use Rattle.ival_core.specs.declared.value.Ival.{Ival}
use Rattle.ival_core.specs.Ivals.{Holds}
use Rattle.ival_core.specs.Sets.{IsNumber}
use Rattle.ival_core.specs.Views.{bounds_of}
use Rattle.ival_arith.specs.declared.terms.Term.TheVariants.{Product}
use Rattle.ival_arith.specs.Terms.{exact_term}
use Rattle.avalue_base.specs.Lists.{union_of}
use Rattle.avalue_base.specs.Numbers.{is_empty, is_empty_list, words}
use Rattle.avalue_base.specs.Values.{Address, AVal, Separate, Mixed, bases_of}
use Rattle.avalue_base.specs.Hues.{pointer_bits}
use Rattle.avalue_base.specs.Pieces.{no_value}
use Rattle.avalue_base.specs.Meets.{set_of, lies_near}
use Rattle.aops.specs.Converted.{wrapped_set}
use Rattle.aops_pointers.specs.Images.{image}

-- forwards or back
abbrev pub summed : Bool → ℤ → ℤ → ℤ
summed true x y = x -ℤ y
summed false x y = x +ℤ y

abbrev pub moved_by : Bool → Machine → ℕ → Value → Value → Value
moved_by true machine size pointer count = moved_back machine size pointer count
moved_by false machine size pointer count = moved machine size pointer count

-- x with another number, in the pointer's range
abbrev pub at_number : Machine → ℤ → Value → Value
at_number machine n x = record { number = address_number machine n; provenance = x.provenance }

-- a set, where it is known
abbrev pub option_set : Option Shape → Option Ival
option_set None = None
option_set (Some s) = Some (set_of s)

-- so many elements, in bytes; nothing is told beyond the numbers that a set may hold
unfoldable pub in_bytes : ℕ → Ival → Option Ival
in_bytes size counts = option_set (exact_term Product counts.shape (Few (record { items = pos size ∷ [] })))

-- the least set of sums, or of differences
abbrev pub sum_of : Bool → Ival → Ival → Option Ival
sum_of back a b = image (summed back) a b

abbrev pub or_words : Option Ival → Ival
or_words None = words
or_words (Some s) = s

-- all sums are near
abbrev pub is_near_sum : Option Ival → Bool
is_near_sum None = false
is_near_sum (Some s) = lies_near (bounds_of s.shape)

abbrev pub stays_near : Bool → Ival → Address → Bool
stays_near back steps a = is_near_sum (sum_of back a.offsets steps)

abbrev pub moved_address : Bool → Ival → Address → Address
moved_address back steps a = record { base = a.base; offsets = or_words (sum_of back a.offsets steps) }

-- sums modulo the pointer's range
abbrev pub moved_numbers : Machine → Option Ival → Ival
moved_numbers machine None = words
moved_numbers machine (Some s) = wrapped_set false (pointer_bits machine) s

-- a value of which only the bases are known
abbrev pub of_bases : List ℕ → AVal
of_bases bases = cond (is_empty_list bases) (Separate words []) (Mixed bases)

-- moved by these bytes, where addresses stay near their bases
abbrev pub shifted : Bool → Machine → Ival → AVal → AVal
shifted back machine steps (Separate numbers addresses) =
    cond (list_all (stays_near back steps) addresses)
    (Separate (moved_numbers machine (sum_of back numbers steps)) (map (moved_address back steps) addresses))
    (of_bases (bases_of (Separate numbers addresses)))
shifted back machine steps (Mixed bases) = Mixed bases

abbrev pub shifted_by : Bool → Machine → AVal → Option Ival → AVal
shifted_by back machine v None = of_bases (bases_of v)
shifted_by back machine v (Some steps) = cond (is_empty steps.shape) no_value (shifted back machine steps v)

-- by counts of elements of so many bytes
abbrev pub moved_sets : Bool → Machine → ℕ → AVal → AVal → AVal
moved_sets back machine size v (Separate counts []) = shifted_by back machine v (in_bytes size counts)
moved_sets back machine size v (Separate counts (a ∷ addresses)) = Mixed (union_of (bases_of v) (bases_of (Separate counts (a ∷ addresses))))
moved_sets back machine size v (Mixed bases) = Mixed (union_of (bases_of v) bases)

-- an offset that is kept
pub record IsNear (n : ℤ) : Type 0 where
  pub least : neg_ℤ (pos (2 ^ 62)) ≤ℤ n
  pub greatest : n ≤ℤ pos (2 ^ 62)

-- moved by k bytes, an address keeps its offset, and a number is one that a set may hold
abbrev pub IsKept : Bool → ℤ → AVal → Type 0
IsKept back k (Separate ns []) = (n : ℤ) → Holds ns n → IsNumber (summed back n k)
IsKept back k (Separate ns (a ∷ addresses)) = (o : ℤ) → Holds a.offsets o → IsNear (summed back o k)
IsKept back k (Mixed bases) = Unit {0}
