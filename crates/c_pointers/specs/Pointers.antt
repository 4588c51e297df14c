-- C's operators on pointers (C11 6.5.6, 6.5.8, 6.5.9, 6.5.2.1). Sizes of elements are in bytes.
use Rattle.std.specs.Prelude.{ℕ, ◌==◌, Bool, true, false, cond, not, ◌&&◌, ◌||◌, ℤ, pos, neg_ℤ, ◌+ℤ◌, ◌-ℤ◌, ◌*ℤ◌, int_le, int_lt, int_div, Option, None, Some, Result, Ok, Err}
use Rattle.std.specs.FinSet.{union}
use Rattle.c_base.specs.declared.integer.Machine.{Machine}
use Rattle.c_base.specs.declared.kind.Kind.{Kind}
use Rattle.c_base.specs.declared.kind.Kind.TheVariants.{PtrComparison, DifferingBlocks, IndexBound}
use Rattle.c_base.specs.declared.operators.BinOp.{BinOp}
use Rattle.c_base.specs.declared.operators.BinOp.TheVariants.{Lt, Le, Gt, Ge, Eq, Ne}
use Rattle.c_base.specs.Operators.{is_zero, truth_number}
use Rattle.c_memory.specs.Layouts.{Layout}
use Rattle.c_memory.specs.Values.{Value, plain}
use Rattle.c_pointers.specs.Conversions.{address_number}
use Rattle.c_pointers.specs.Addresses.{is_plain, only_base, distance, is_in_or_behind, is_inside}

-- A pointer moved by so many elements. That it leaves its object is no undefined step here; an access through it is (C11 6.5.6p8).
abbrev pub moved : Machine → ℕ → Value → Value → Value
moved machine size pointer count = record {
  number = address_number machine (pointer.number +ℤ count.number *ℤ pos size);
  provenance = union pointer.provenance count.provenance;
}

abbrev pub moved_back : Machine → ℕ → Value → Value → Value
moved_back machine size pointer count = record {
  number = address_number machine (pointer.number -ℤ count.number *ℤ pos size);
  provenance = union pointer.provenance count.provenance;
}

-- both point into one object, or to its end
abbrev pub share_base : Layout → Value → Value → Option ℕ → Option ℕ → Bool
share_base l a b None c = false
share_base l a b (Some base) None = false
share_base l a b (Some base) (Some other) = (base == other) && (is_in_or_behind l base a && is_in_or_behind l base b)

abbrev pub are_of_one_object : Layout → Value → Value → Bool
are_of_one_object l a b = share_base l a b (only_base l a) (only_base l b)

-- how many elements lie between two pointers into one object (C11 6.5.6p9), without a rest
abbrev pub difference : Layout → ℕ → Value → Value → Result Value Kind
difference l size a b = cond (are_of_one_object l a b) (Ok (plain (int_div (a.number -ℤ b.number) (pos size)))) (Err DifferingBlocks)

-- two pointers by their numbers
abbrev pub compared : BinOp → ℤ → ℤ → Bool
compared Lt a b = int_lt a b
compared Le a b = int_le a b
compared Gt a b = int_lt b a
compared Ge a b = int_le b a
compared Eq a b = int_le a b && int_le b a
compared Ne a b = not (int_le a b && int_le b a)
compared op a b = false

-- a null pointer, and a pointer into an object or to its end
abbrev pub is_null : Value → Bool
is_null v = is_plain v && is_zero v.number

abbrev pub points_to_some : Layout → Value → Option ℕ → Bool
points_to_some l v None = false
points_to_some l v (Some base) = is_in_or_behind l base v

-- two pointers to bytes of different objects
abbrev pub points_apart : Layout → Value → Value → Option ℕ → Option ℕ → Bool
points_apart l a b None c = false
points_apart l a b (Some base) None = false
points_apart l a b (Some base) (Some other) = not (base == other) && (is_inside l base a && is_inside l other b)

-- pointers that may be asked for equality: two plain numbers, a null pointer and one to an object, two to one object, or two to bytes of
-- different objects (C11 6.5.9p6: the end of an object may be the address of the next one)
abbrev pub are_comparable : Layout → Value → Value → Bool
are_comparable l a b =
    (is_plain a && is_plain b)
    || ((is_null a && points_to_some l b (only_base l b))
    || ((is_null b && points_to_some l a (only_base l a))
    || (are_of_one_object l a b
    || points_apart l a b (only_base l a) (only_base l b))))

-- `==` and `!=` ask for pointers that are comparable; the other comparisons for two pointers into one object (C11 6.5.8p5)
abbrev pub may_compare : BinOp → Layout → Value → Value → Bool
may_compare Eq l a b = are_comparable l a b
may_compare Ne l a b = are_comparable l a b
may_compare op l a b = are_of_one_object l a b

abbrev pub comparison : BinOp → Layout → Value → Value → Result Value Kind
comparison op l a b = cond (may_compare op l a b) (Ok (plain (truth_number (compared op a.number b.number)))) (Err PtrComparison)

-- the place of an element of an array of `count` elements; where its address alone is asked for, the end is a place too
abbrev pub element_at : Machine → ℕ → ℕ → Bool → Value → Value → Result Value Kind
element_at machine size count end array index =
    cond (int_le (pos 0) index.number && cond end (int_le index.number (pos count)) (int_lt index.number (pos count)))
    (Ok (moved machine size array index))
    (Err IndexBound)
