-- Comparisons of values that may be pointers, as plain functions (C11 6.5.8, 6.5.9).
use Rattle.std.specs.Prelude.{ℕ, ◌==◌, Bool, true, false, cond, ◌&&◌, ◌||◌, pos, ◌-ℤ◌, Option, None, Some}
use Rattle.std.specs.List.{list_all}
use Rattle.c_base.specs.declared.operators.BinOp.{BinOp}
use Rattle.c_base.specs.declared.operators.BinOp.TheVariants as op
use Rattle.c_base.specs.declared.operators.Rel.{Rel}
use Rattle.c_base.specs.declared.operators.Rel.TheVariants.{Lt, Le, Gt, Ge, Eq, Ne}
use Rattle.ival_core.specs.declared.value.Ival.{Ival}
use Rattle.ival_core.specs.Views.{bounds_of}
use Rattle.ival_arith.specs.Kinds.{holds_number}
use Rattle.avalue_base.specs.Numbers.{is_empty, words}
use Rattle.avalue_base.specs.Values.{Address, AVal, Separate, Mixed}
use Rattle.avalue_base.specs.Meets.{meet_of, lies_near}
use Rattle.avalue_values.specs.Views.{numbers_alone}
use Rattle.aops.specs.Numbers.{truth_set, related}
use Rattle.aops_relations.specs.declared.comparisons.Verdict.{Verdict}
use Rattle.aops_relations.specs.Placed.{one_address, all_within, all_inside, some_inside}

abbrev pub op_of : Rel → BinOp
op_of Lt = op.Lt
op_of Le = op.Le
op_of Gt = op.Gt
op_of Ge = op.Ge
op_of Eq = op.Eq
op_of Ne = op.Ne

abbrev pub is_equality : Rel → Bool
is_equality Eq = true
is_equality Ne = true
is_equality Lt = false
is_equality Le = false
is_equality Gt = false
is_equality Ge = false

abbrev pub nothing : Ival
nothing = truth_set false false

-- what the relation is of pointers that are not equal, where such may be asked
abbrev pub untied : Rel → Ival
untied Eq = truth_set false true
untied Ne = truth_set true false
untied Lt = nothing
untied Le = nothing
untied Gt = nothing
untied Ge = nothing

abbrev pub unknown : Verdict
unknown = record { set = truth_set true true; sure = false }

-- offsets into one base, which has so many bytes
abbrev pub one_base : Rel → ℕ → Address → Address → Verdict
one_base rel size x y = record {
  set = cond (some_inside (pos size) x && some_inside (pos size) y) (related rel x.offsets y.offsets) nothing;
  sure = all_inside (pos size) x && all_inside (pos size) y;
}

-- bytes of two bases
abbrev pub two_bases : Rel → ℕ → ℕ → Address → Address → Verdict
two_bases rel left right x y = record {
  set = cond (some_inside (pos left -ℤ pos 1) x && some_inside (pos right -ℤ pos 1) y) (untied rel) nothing;
  sure = is_equality rel && (all_inside (pos left -ℤ pos 1) x && all_inside (pos right -ℤ pos 1) y);
}

abbrev pub two_addresses : Rel → (ℕ → ℕ) → Address → Address → Verdict
two_addresses rel size_of x y = cond (x.base == y.base) (one_base rel (size_of x.base) x y) (two_bases rel (size_of x.base) (size_of y.base) x y)

-- there is no number but 0
abbrev pub zero_alone : Ival → Bool
zero_alone ns = all_within (pos 0) (bounds_of ns.shape)

-- an address beside a null pointer
abbrev pub with_null : Rel → ℕ → Address → Ival → Verdict
with_null rel size x ns = record {
  set = cond (holds_number ns.shape (pos 0) && some_inside (pos size) x) (untied rel) nothing;
  sure = is_equality rel && (zero_alone ns && all_inside (pos size) x);
}

-- numbers that were made from no address; those beyond 64 bits are no pointers
abbrev pub two_numbers : Rel → Ival → Ival → Verdict
two_numbers rel ns ms = record {
  set = cond (is_equality rel) (related rel ns ms) nothing;
  sure = is_equality rel || (is_empty (meet_of ns words).shape || is_empty (meet_of ms words).shape);
}

abbrev pub is_good : (ℕ → ℕ) → Address → Bool
is_good size_of a = lies_near (bounds_of a.offsets.shape) && all_inside (pos (size_of a.base)) a

abbrev pub all_good : (ℕ → ℕ) → AVal → Bool
all_good size_of (Separate numbers addresses) = list_all (is_good size_of) addresses
all_good size_of (Mixed bases) = false

-- many values beside a null pointer
abbrev pub tested : Rel → (ℕ → ℕ) → AVal → Ival → Verdict
tested rel size_of v ns = record { set = truth_set true true; sure = is_equality rel && (zero_alone ns && all_good size_of v) }

abbrev pub with_numbers : Rel → (ℕ → ℕ) → Address → Option Ival → Verdict
with_numbers rel size_of x None = unknown
with_numbers rel size_of x (Some ns) = with_null rel (size_of x.base) x ns

abbrev pub by_numbers : Rel → (ℕ → ℕ) → AVal → AVal → Option Ival → Option Ival → Verdict
by_numbers rel size_of v w None None = unknown
by_numbers rel size_of v w None (Some ms) = tested rel size_of v ms
by_numbers rel size_of v w (Some ns) None = tested rel size_of w ns
by_numbers rel size_of v w (Some ns) (Some ms) = two_numbers rel ns ms

abbrev pub by_addresses : Rel → (ℕ → ℕ) → AVal → AVal → Option Address → Option Address → Verdict
by_addresses rel size_of v w None None = by_numbers rel size_of v w (numbers_alone v) (numbers_alone w)
by_addresses rel size_of v w None (Some y) = with_numbers rel size_of y (numbers_alone v)
by_addresses rel size_of v w (Some x) None = with_numbers rel size_of x (numbers_alone w)
by_addresses rel size_of v w (Some x) (Some y) = two_addresses rel size_of x y

abbrev pub judged : Rel → (ℕ → ℕ) → AVal → AVal → Verdict
judged rel size_of v w = by_addresses rel size_of v w (one_address v) (one_address w)
