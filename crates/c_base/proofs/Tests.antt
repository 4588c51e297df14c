-- Tests of numbers for equality.
use Rattle.std.proofs.Common.{◌≡◌, ◌≢◌, ℕ, ◌==◌, true, false, arith}
use Rattle.std.proofs.lemmas.Bool.Decides.{nat_tests}

pub same_test : (a : ℕ) → (a == a) ≡ true
same_test a = grind (arith, nat_tests)

pub other_test : (a b : ℕ) → a ≢ b → (a == b) ≡ false
other_test a b h = grind (arith, nat_tests)

pub test_same : (a b : ℕ) → (a == b) ≡ true → a ≡ b
test_same a b h = grind (arith, nat_tests)
