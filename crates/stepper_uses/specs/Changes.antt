-- Conversions of what isn't a scalar.
use Rattle.std.specs.Prelude.{cond}
use Rattle.c_types.specs.Types.{CType}
use Rattle.c_types.specs.Compatible.{is_void}
use Rattle.c_machine.specs.Machine.{Held, Absent}

-- what is converted to void is discarded, and anything else stays as it is
abbrev pub kept_as : CType → Held → Held
kept_as t h = cond (is_void t) Absent h
