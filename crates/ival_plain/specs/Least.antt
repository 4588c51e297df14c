-- The least set of given numbers.
use Rattle.std.specs.Prelude.{◌^◌, Bool, ◌&&◌, ℤ, pos, neg_ℤ, int_le, List, [], filter}
use Rattle.ival_core.specs.declared.value.Shape.{Shape}
use Rattle.ival_core.specs.declared.value.Shape.TheVariants.{Few}
use Rattle.ival_core.specs.Joined.{with_numbers}

-- a set may hold the number
abbrev pub is_number : ℤ → Bool
is_number n = int_le (neg_ℤ (pos (2 ^ 120))) n && int_le n (pos (2 ^ 120))

-- the least set of those that a set may hold
unfoldable pub least_shape : List ℤ → Shape
least_shape ns = with_numbers (Few (record { items = [] })) (filter is_number ns)
