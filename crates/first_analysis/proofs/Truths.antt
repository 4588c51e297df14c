-- Which truths the relations between two numbers have.
use Rattle.std.proofs.Common.{◌≡◌, ◌≢◌, ℤ, Bool, true, false, IsTrue, ◌&&◌, refl, arith}
use Rattle.std.specs.Prelude.{not, int_le, int_lt}
use Rattle.std.proofs.lemmas.Int.{ints}
use Rattle.c_base.specs.Operators.{truth_number}
use Rattle.first_analysis.specs.Evaluation.{is_true}
use Rattle.first_analysis.specs.declared.evaluation.Truths.{Truths}
use Rattle.first_analysis.specs.Values.{is_possible}

is_true_number : (b : Bool) → is_true (truth_number b) ≡ b
is_true_number true = refl
is_true_number false = refl

at_most-not_below : (m n : ℤ) → int_le m n ≡ not (int_lt n m)
at_most-not_below m n = grind (arith, ints)

pub lt_possible : (r : Truths) (m n : ℤ) → IsTrue (is_possible r (int_lt m n)) → IsTrue (is_possible r (is_true (truth_number (int_lt m n))))
lt_possible r m n h = rw (is_true_number (int_lt m n)) h

pub le_possible : (r q : Truths) (m n : ℤ) → ((t : Bool) → is_possible q t ≡ is_possible r (not t)) → IsTrue (is_possible r (int_lt n m)) →
    IsTrue (is_possible q (is_true (truth_number (int_le m n))))
le_possible r q m n negated h = rw (is_true_number (int_le m n), negated (int_le m n), at_most-not_below m n) (by_test (int_lt n m) h)
  where
    by_test : (b : Bool) → IsTrue (is_possible r b) → IsTrue (is_possible r (not (not b)))
    by_test true h = h
    by_test false h = h

both_ways : (m n : ℤ) → (int_le m n && int_le n m) ≡ true → m ≡ n
both_ways m n h = grind (arith, ints)

one_way : (m n : ℤ) → (int_le m n && int_le n m) ≡ false → m ≢ n
one_way m n h e = grind (arith, ints)

eq_at : (r : Truths) (m n : ℤ) (b : Bool) → (int_le m n && int_le n m) ≡ b → (m ≡ n → IsTrue r.may_be_true) → (m ≢ n → IsTrue r.may_be_false) → IsTrue (is_possible r b)
eq_at r m n true e equal apart = equal (both_ways m n e)
eq_at r m n false e equal apart = apart (one_way m n e)

pub eq_possible : (r : Truths) (m n : ℤ) → (m ≡ n → IsTrue r.may_be_true) → (m ≢ n → IsTrue r.may_be_false) →
    IsTrue (is_possible r (is_true (truth_number (int_le m n && int_le n m))))
eq_possible r m n equal apart = rw (is_true_number (int_le m n && int_le n m)) (eq_at r m n (int_le m n && int_le n m) refl equal apart)

pub ne_possible : (r q : Truths) (m n : ℤ) → ((t : Bool) → is_possible q t ≡ is_possible r (not t)) → (m ≡ n → IsTrue r.may_be_true) → (m ≢ n → IsTrue r.may_be_false) →
    IsTrue (is_possible q (is_true (truth_number (not (int_le m n && int_le n m)))))
ne_possible r q m n negated equal apart =
    rw (is_true_number (not (int_le m n && int_le n m)), negated (not (int_le m n && int_le n m)))
    (by_test (int_le m n && int_le n m) (eq_at r m n (int_le m n && int_le n m) refl equal apart))
  where
    by_test : (b : Bool) → IsTrue (is_possible r b) → IsTrue (is_possible r (not (not b)))
    by_test true h = h
    by_test false h = h
