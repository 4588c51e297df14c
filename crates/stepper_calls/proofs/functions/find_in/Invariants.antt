use Rattle.std.proofs.Common.{◌≡◌, drop}
use Rattle.c_program.specs.Syntax.{function_at}
use Rattle.stepper_calls.specs.Functions.{functions_of}
use Rattle.stepper_calls.proofs.functions.find_in.Given as goal

abbrev pub invariant-loop-function : goal.invariant-loop-function
invariant-loop-function l =
    function_at (functions_of l.fn.program l.functions) l.fn.base ≡ function_at (functions_of l.fn.program (drop l.function-index l.functions)) l.fn.base
