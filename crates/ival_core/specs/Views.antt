-- The parts of a shape that the calls answer, as plain functions of it.
use Rattle.std.specs.Prelude.{ℤ, pos, List, [], ◌∷◌, length, slice_index_or, Option, Some, None}
use Rattle.std.specs.Int.{int_rem_euclid}
use Rattle.ival_core.specs.declared.value.Shape.{Shape}
use Rattle.ival_core.specs.declared.value.Shape.TheVariants.{Few, Many}

-- the first and the last number of a list
abbrev pub ends_of : List ℤ → Option (ℤ × ℤ)
ends_of [] = None
ends_of (x ∷ xs) = Some (x, slice_index_or (x ∷ xs) (length xs) x)

-- the least and the greatest number, where there is one
abbrev pub bounds_of : Shape → Option (ℤ × ℤ)
bounds_of (Few v) = ends_of v.items
bounds_of (Many p) = Some (p.low, p.high)

-- the only number of a list
abbrev pub one_of : List ℤ → Option ℤ
one_of [] = None
one_of (x ∷ []) = Some x
one_of (x ∷ y ∷ ys) = None

-- the only number, where there is just one
abbrev pub single_of : Shape → Option ℤ
single_of (Few v) = one_of v.items
single_of (Many p) = None

-- the numbers, where they are at most 8
abbrev pub numbers_of : Shape → Option (List ℤ)
numbers_of (Few v) = Some v.items
numbers_of (Many p) = None

-- remainder and modulus, where there are more than 8 numbers, and (0, 1) otherwise
abbrev pub congruence_of : Shape → ℤ × ℤ
congruence_of (Few v) = (pos 0, pos 1)
congruence_of (Many p) = (int_rem_euclid p.low (pos p.stride), pos p.stride)
