-- The marks of a program, at which widening stops, ascend and are bounded.
use Rattle.std.specs.Prelude.{◌-◌, ◌^◌, ◌≤ℤ◌, ◌<ℤ◌, List, [], ◌∷◌, ℤ, pos, negsuc}
use Rattle.std.specs.List.{AllByRecursion}
use Rattle.c_program.specs.Syntax.{Program}

abbrev pub AreAscending : List ℤ → Type 0
AreAscending [] = Unit {0}
AreAscending (m ∷ more) = AllByRecursion (λ n. m <ℤ n) more × AreAscending more

abbrev pub IsMark : ℤ → Type 0
IsMark m = (negsuc (2 ^ 120 - 1) ≤ℤ m) × (m ≤ℤ pos (2 ^ 120))

pub record IsMarked (p : Program) : Type 0 where
  pub ascending : AreAscending p.marks
  pub bounded : AllByRecursion IsMark p.marks
