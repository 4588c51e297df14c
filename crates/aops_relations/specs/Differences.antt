-- Differences of values that may be pointers, as plain functions (C11 6.5.6p9).
use Rattle.std.specs.Prelude.{ℕ, ◌^◌, ◌==◌, false, cond, ◌&&◌, ◌||◌, pos, neg_ℤ, ◌-ℤ◌, [], ◌∷◌, Option, None, Some}
use Rattle.ival_core.specs.declared.value.Shape.TheVariants.{Few, Many}
use Rattle.ival_core.specs.declared.value.Ival.{Ival}
use Rattle.ival_arith.specs.declared.terms.Term.TheVariants.{Quotient}
use Rattle.ival_arith.specs.Terms.{exact_term}
use Rattle.avalue_base.specs.Numbers.{is_empty, words}
use Rattle.avalue_base.specs.Values.{Address, AVal}
use Rattle.avalue_base.specs.Meets.{set_of, meet_of}
use Rattle.avalue_values.specs.Views.{numbers_alone}
use Rattle.aops_pointers.specs.Images.{image}
use Rattle.aops_pointers.specs.Moves.{option_set}
use Rattle.aops_relations.specs.declared.comparisons.Verdict.{Verdict}
use Rattle.aops_relations.specs.Comparisons.{nothing}
use Rattle.aops_relations.specs.Placed.{one_address, all_inside, some_inside}

-- no difference of pointers into one object is further away
unfoldable pub far_numbers : Ival
far_numbers = set_of (Many (record { low = neg_ℤ (pos (2 ^ 47)); high = pos (2 ^ 47); stride = 1 }))

-- divided by the size of an element, if it is known
abbrev pub quotient_of : ℕ → Option Ival → Option Ival
quotient_of size None = None
quotient_of size (Some d) = option_set (exact_term Quotient d.shape (Few (record { items = pos size ∷ [] })))

abbrev pub or_far : Option Ival → Ival
or_far None = far_numbers
or_far (Some s) = s

unfoldable pub quotients : ℕ → Ival → Ival → Ival
quotients size a b = or_far (quotient_of size (image (λ m n. m -ℤ n) a b))

-- offsets into one base of so many bytes
abbrev pub within_one : ℕ → ℕ → Address → Address → Verdict
within_one size bytes x y = record {
  set = cond (some_inside (pos bytes) x && some_inside (pos bytes) y) (quotients size x.offsets y.offsets) nothing;
  sure = all_inside (pos bytes) x && all_inside (pos bytes) y;
}

-- no two of the pointers point into one object
abbrev pub undefined : Verdict
undefined = record { set = nothing; sure = false }

-- numbers beyond 64 bits are no pointers
abbrev pub of_numbers : Ival → Ival → Verdict
of_numbers ns ms = record { set = nothing; sure = is_empty (meet_of ns words).shape || is_empty (meet_of ms words).shape }

abbrev pub of_addresses : ℕ → (ℕ → ℕ) → Option Address → Option Address → Verdict
of_addresses size size_of None c = record { set = far_numbers; sure = false }
of_addresses size size_of (Some x) None = record { set = far_numbers; sure = false }
of_addresses size size_of (Some x) (Some y) = cond (x.base == y.base) (within_one size (size_of x.base) x y) undefined

abbrev pub of_parts : ℕ → (ℕ → ℕ) → Option Address → Option Address → Option Ival → Option Ival → Verdict
of_parts size size_of a c None None = of_addresses size size_of a c
of_parts size size_of a c None (Some ms) = undefined
of_parts size size_of a c (Some ns) None = undefined
of_parts size size_of a c (Some ns) (Some ms) = of_numbers ns ms

abbrev pub differed : ℕ → (ℕ → ℕ) → AVal → AVal → Verdict
differed size size_of v w = of_parts size size_of (one_address v) (one_address w) (numbers_alone v) (numbers_alone w)
