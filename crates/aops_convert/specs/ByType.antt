-- Conversions by types, as a plain function.
use Rattle.std.specs.Prelude.{Option, None, Some}
use Rattle.c_base.specs.declared.integer.Machine.{Machine}
use Rattle.c_memory.specs.declared.scalar.Scalar.{Scalar}
use Rattle.avalue_base.specs.Values.{AVal}
use Rattle.aops.specs.Converted.{converted_value}

-- converted to a scalar type; for another type as it is
abbrev pub typed_value : Option Scalar → Machine → AVal → AVal
typed_value None m v = v
typed_value (Some s) m v = converted_value s m v
