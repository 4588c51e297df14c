-- What was read, as far as it is allowed to nest.
use Rattle.std.specs.Prelude.{ℕ, nat_le, cond, Option, None, Some, Result, Ok}
use Rattle.c_parse_base.specs.declared.found.Found.{Found as CodeFound}

-- what the code found, where it is at most so deep
abbrev pub no_deeper : {T E : Type 0} → ℕ → Result (Option (CodeFound T)) E → Result (Option (CodeFound T)) E
no_deeper depth (Ok (Some f)) = Ok (cond (nat_le f.height depth) (Some f) None)
no_deeper depth r = r
