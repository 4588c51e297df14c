-- The widening of cells in elements. What is asked of it stands here since a trait's instance takes none of its crate's own proofs.
use Rattle.std.specs.Prelude.{◌≡◌, ℕ, ℤ, pos, neg_ℤ, ◌^◌, List, [], ◌∷◌}
use Rattle.std.specs.Coded.{×_prop, Unit-prop}
use lib.Dec.{T_prop}
use lib.Signed.{◌≤ℤ◌, ◌<ℤ◌, le_z, lt_z}
use Rattle.c_base.specs.declared.integer.Machine.TheVariants.{Lp64}
use Rattle.ival_core.specs.Sets.{AllNumbers, AllAbove, IsAscending, IsNumber}
use Rattle.ival_core.specs.Widenings.{AreMarks}
use Rattle.run_places.specs.Widens.{WidenLaws}
use Rattle.avalue_base.specs.Values.{Cellv}
use Rattle.avalue_base.specs.Ops.{ops, Fine}
use Rattle.avalue_parts.specs.Widened.{bit_marks}
use Rattle.avalue_parts.proofs.Marks.{bit_are_marks}
use Rattle.avalue.specs.Widenings.{widened_cell}
use Rattle.avalue.proofs.Growing.{widened_first, widened_second, widened_fine}

-- that a list is one of marks is a fact: it has one proof at most
number_prop : (n : ℤ) → IsProp (IsNumber n)
number_prop n = hlevel (at_most (neg_ℤ (pos (2 ^ 120))) n, at_most n (pos (2 ^ 120)))
  where
    at_most : (a b : ℤ) → IsProp (a ≤ℤ b)
    at_most a b = hlevel (T_prop (le_z a b))

below_prop : (a b : ℤ) → IsProp (a <ℤ b)
below_prop a b = hlevel (T_prop (lt_z a b))

numbers_prop : (xs : List ℤ) → IsProp (AllNumbers xs)
numbers_prop [] = Unit-prop
numbers_prop (x ∷ xs) = ×_prop (number_prop x) (numbers_prop xs)

above_prop : (x : ℤ) (ys : List ℤ) → IsProp (AllAbove x ys)
above_prop x [] = Unit-prop
above_prop x (y ∷ ys) = ×_prop (below_prop x y) (above_prop x ys)

ascending_prop : (xs : List ℤ) → IsProp (IsAscending xs)
ascending_prop [] = Unit-prop
ascending_prop (x ∷ xs) = ×_prop (above_prop x xs) (ascending_prop xs)

pub marks_prop : (marks : List ℤ) → IsProp (AreMarks marks)
marks_prop marks = hlevel (ascending_prop marks, numbers_prop marks)

-- by these marks, those of the element's numbers, and each base's size
abbrev pub grown : (ℕ → ℕ) → List ℤ → ℕ → Cellv → Cellv → Cellv
grown size_of marks k x y = widened_cell size_of marks (bit_marks k) x y

pub grown_laws : (size_of : ℕ → ℕ) (marks : List ℤ) → AreMarks marks → WidenLaws (ops Lp64) (Fine Lp64) (grown size_of marks)
grown_laws size_of marks m = record {
  widened_fine = λ k x y f g. widened_fine size_of marks (bit_marks k) m (bit_are_marks k f.some_bits f.few_bits) Lp64 k x y f g;
  widened_first = λ k x y f g. widened_first size_of marks (bit_marks k) m (bit_are_marks k f.some_bits f.few_bits) x y;
  widened_second = λ k x y f g. widened_second size_of marks (bit_marks k) m (bit_are_marks k f.some_bits f.few_bits) x y;
}
