-- Which uses of a function's name let a call by a pointer enter it.
use Rattle.std.proofs.Common.{◌≡◌, ℕ, Bool, true, ◌==◌, ◌||◌, refl, arith}
use Rattle.std.proofs.lemmas.Bool.Decides.{nat_tests}
use Rattle.c_program.specs.Laws.{NamedAsArgument, NotNamedAsCalled}

same : (f : ℕ) → (f == f) ≡ true
same f = grind (arith, nat_tests)

pub named_as_argument : (f : ℕ) → NamedAsArgument f
named_as_argument f site g t u = rw (same f) refl

pub not_named_as_called : (f : ℕ) → NotNamedAsCalled f
not_named_as_called f site t = refl
