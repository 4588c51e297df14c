-- Widened cells lie above both, and may stand where these may.
use Rattle.std.proofs.Common.{◌≡◌, ℕ, true, ◌||◌, List, sym, subst}
use Rattle.std.specs.Prelude.{ℤ, ◌==◌, Result, Ok, Err, IfOk}
use Rattle.c_base.specs.declared.integer.Machine.{Machine}
use Rattle.ival_core.specs.Widenings.{AreMarks}
use Rattle.avalue_base.specs.Lists.{merged}
use Rattle.avalue_base.specs.Values.{AVal, Separate, Mixed, Cellv, base_of}
use Rattle.avalue_base.specs.Order.{leq, join, united, join_values}
use Rattle.avalue_base.specs.Hues.{blank, pointer_bits, fits_value}
use Rattle.avalue_base.specs.Ops.{Fine}
use Rattle.avalue_base.proofs.Joins.{join_laws}
use Rattle.avalue_base.proofs.Ordering.{implies_left, implies_right, leq_from, value_nothing}
use Rattle.avalue_parts.specs.Widened.{widened_address}
use Rattle.avalue_values.specs.Widenings.{widened_values}
use Rattle.avalue_values.proofs.Growing.{grown, same_length, joined_in, widened_left, widened_right, widened_offsets}
use Rattle.avalue.specs.Widenings.{widened_cell}

module _ (size_of : ℕ → ℕ) (marks own : List ℤ) (m : AreMarks marks) (k : AreMarks own) where
  pub widened_first : (x y : Cellv) → leq x (widened_cell size_of marks own x y) ≡ true
  widened_first x y = leq_from x (widened_cell size_of marks own x y) (record { first = widened_left size_of marks own m k x.value y.value; second = implies_left x.uninit y.uninit; third = implies_left x.dead y.dead })

  pub widened_second : (x y : Cellv) → leq y (widened_cell size_of marks own x y) ≡ true
  widened_second x y = leq_from y (widened_cell size_of marks own x y) (record { first = widened_right size_of marks own m k x.value y.value; second = implies_right x.uninit y.uninit; third = implies_right x.dead y.dead })

  widened_fits : (machine : Machine) (bits : ℕ) (v w : AVal) → fits_value machine bits (join_values v w) ≡ true → fits_value machine bits (widened_values size_of marks own v w) ≡ true
  widened_fits machine bits (Separate ns xs) (Separate ms ys) h =
      subst (λ b. (b || (bits == pointer_bits machine)) ≡ true) (same_length (united xs ys) (merged base_of (widened_address size_of marks) xs ys) (grown size_of marks m xs ys)) h
  widened_fits machine bits (Separate ns xs) (Mixed bs) h = h
  widened_fits machine bits (Mixed bs) w h = h

  pub widened_fine : (machine : Machine) (bits : ℕ) (x y : Cellv) → Fine machine bits x → Fine machine bits y → Fine machine bits (widened_cell size_of marks own x y)
  widened_fine machine bits x y f g =
      let j = (join_laws machine).join_fine bits x y f g in
      let none : blank (widened_cell size_of marks own x y) ≡ true → blank (join x y) ≡ true =
      λ e. value_nothing (join_values x.value y.value) (widened_values size_of marks own x.value y.value) (joined_in size_of marks own m k x.value y.value) e in
      record {
        some_bits = f.some_bits;
        few_bits = f.few_bits;
        blank_bits = λ e. j.blank_bits (none e);
        flag = λ e. j.flag (none e);
        fits = widened_fits machine bits x.value y.value j.fits;
        offsets = widened_offsets size_of marks own m k x.value y.value f.offsets g.offsets;
      }

-- ---- what the call answers

pub answers_first : {E : Type 0} (r : Result Cellv E) (size_of : ℕ → ℕ) (marks own : List ℤ) (x y : Cellv) → AreMarks marks → AreMarks own → IfOk r (λ c. c ≡ widened_cell size_of marks own x y) → IfOk r (λ c. leq x c ≡ true)
answers_first (Err e) size_of marks own x y m k h = tt
answers_first (Ok c) size_of marks own x y m k h = subst (λ z. leq x z ≡ true) (sym h) (widened_first size_of marks own m k x y)

pub answers_second : {E : Type 0} (r : Result Cellv E) (size_of : ℕ → ℕ) (marks own : List ℤ) (x y : Cellv) → AreMarks marks → AreMarks own → IfOk r (λ c. c ≡ widened_cell size_of marks own x y) → IfOk r (λ c. leq y c ≡ true)
answers_second (Err e) size_of marks own x y m k h = tt
answers_second (Ok c) size_of marks own x y m k h = subst (λ z. leq y z ≡ true) (sym h) (widened_second size_of marks own m k x y)
