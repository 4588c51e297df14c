-- A valid program has a start.
use Rattle.std.proofs.Common.{◌≡◌, Option, None, Some, refl}
use Rattle.std.specs.Prelude.{IsSome}
use Rattle.c_memory.specs.Layouts.{Layout}
use Rattle.c_program.specs.Syntax.{Function, function_at, Program}
use Rattle.c_program.specs.Valid.{IsValid}
use Rattle.c_machine.specs.Machine.{State, entered}
use Rattle.c_machine.specs.Laws.{HasStart}

by_function : (p : Program) (l : Layout) (f : Option Function) → IsSome f → (s : State) × (entered p l f ≡ Some s)
by_function p l None h = absurd (cc)
by_function p l (Some f) h = (_, refl)

pub has_start : (p : Program) → IsValid p → HasStart p
has_start p v l is = by_function p l (function_at p.functions p.entry) v.entry
