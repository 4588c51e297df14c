-- Arguments that were taken off what is held.
use Rattle.std.specs.Prelude.{◌++◌, Bool, true, false, List, ◌∷◌, map, Option, None, Some, Result, Ok, Err}
use Rattle.c_base.specs.declared.kind.Kind.{Kind}
use Rattle.c_effects.specs.Passing.{Argument}
use Rattle.c_machine.specs.Machine.{Held}
use Rattle.stepper_values.specs.declared.value.Held.{Held as CodeHeld}
use Rattle.stepper_values.specs.Views.{held_of}
use Rattle.stepper_accesses.specs.declared.scopes.Argument.{Argument as CodeArgument}
use Rattle.stepper_accesses.specs.Arguments.{argument_of}

abbrev pub argument_result_of : Result CodeArgument Kind → Result Argument Kind
argument_result_of (Ok a) = Ok (argument_of a)
argument_result_of (Err kind) = Err kind

abbrev pub arguments_result_of : Result (List CodeArgument) Kind → Result (List Argument) Kind
arguments_result_of (Ok all) = Ok (map argument_of all)
arguments_result_of (Err kind) = Err kind

-- arguments behind those that were used already
abbrev pub behind_used : List CodeArgument → Result (List Argument) Kind → Result (List Argument) Kind
behind_used used (Ok more) = Ok (map argument_of used ++ more)
behind_used used (Err kind) = Err kind

-- what was taken off and what is left, where there was enough
abbrev pub split_of : Bool → List CodeHeld → List CodeHeld → Option (List Held × List Held)
split_of false last held = None
split_of true last held = Some (map held_of last, map held_of held)

-- the function of a call, its arguments, and what is held below
abbrev pub call_of : Option CodeHeld → List CodeHeld → List CodeHeld → Option (List Held × List Held)
call_of None arguments held = None
call_of (Some f) arguments held = Some (held_of f ∷ map held_of arguments, map held_of held)
