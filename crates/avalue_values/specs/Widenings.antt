-- The widening of values.
use Rattle.std.specs.Prelude.{ℕ, List, ℤ}
use Rattle.avalue_base.specs.Lists.{merged}
use Rattle.avalue_base.specs.Values.{AVal, Separate, Mixed, base_of}
use Rattle.avalue_base.specs.Order.{join_values}
use Rattle.avalue_parts.specs.Widened.{widened_set, widened_address}

-- numbers by the marks and their own, and the offsets into each base that both have; a mix grows by a base each time
abbrev pub widened_values : (ℕ → ℕ) → List ℤ → List ℤ → AVal → AVal → AVal
widened_values size_of marks own (Separate ns xs) (Separate ms ys) = Separate (widened_set marks own ns ms) (merged base_of (widened_address size_of marks) xs ys)
widened_values size_of marks own (Separate ns xs) (Mixed bs) = join_values (Separate ns xs) (Mixed bs)
widened_values size_of marks own (Mixed bs) w = join_values (Mixed bs) w
