-- Functions with bodies.
use Rattle.std.specs.Prelude.{ℕ, List, [], ◌∷◌, map, Option, None, Some}
use Rattle.c_types.specs.Views.{composite_of}
use Rattle.c_typed_expr.specs.declared.expr.TExpr.{TExpr}
use Rattle.c_typed_stmt.specs.declared.init.TInit.{TInit}
use Rattle.c_typed_stmt.specs.declared.stmt.TBlock.{TBlock}
use Rattle.c_typed_term.specs.declared.predicate.TPred.{TPred}
use Rattle.c_program.specs.declared.program.Function.{Function as CodeFunction}
use Rattle.c_program.specs.declared.program.TypedProgram.{TypedProgram}
use Rattle.c_program.specs.Syntax.{Function, function_at}
use Rattle.c_program.specs.Views.{base_of, with_body, functions_in}
use Rattle.stepper_calls.specs.declared.functions.Defined.{Defined}

abbrev pub functions_of : TypedProgram → List CodeFunction → List Function
functions_of p all = functions_in (map composite_of p.comps) p.machine (map base_of p.bases) all

abbrev pub defined_as : TypedProgram → CodeFunction → TBlock TExpr TInit TPred → List Function
defined_as p f body = with_body (map composite_of p.comps) p.machine (map base_of p.bases) f (Some body)

abbrev pub first_function : List Function → Option Function
first_function [] = None
first_function (f ∷ more) = Some f

-- the plain function that was found
abbrev pub found_of : TypedProgram → Option Defined → Option Function
found_of p None = None
found_of p (Some d) = first_function (defined_as p d.function.now d.body.now)
