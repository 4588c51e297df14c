-- The lesser of a number that was found and another.
use Rattle.std.specs.Prelude.{ℕ, nat_le, cond, Option, None, Some}

abbrev pub first_of : Option ℕ → ℕ → Option ℕ
first_of None n = Some n
first_of (Some m) n = cond (nat_le m n) (Some m) (Some n)
