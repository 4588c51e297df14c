-- Functions that a call by a pointer may enter, and what functions count, by what each base knows of its name.
use Rattle.std.specs.Prelude.{ℕ, Bool, cond, ◌&&◌, List, map, sum, Some}
use Rattle.c_types.specs.Types.{CType}
use Rattle.c_program.specs.declared.program.Base.{Base as CodeBase}
use Rattle.c_program.specs.declared.program.TypedProgram.{TypedProgram}
use Rattle.c_program.specs.Syntax.{Base}
use Rattle.c_program.specs.StaticCalls.{is_function_of}
use Rattle.c_program.specs.Views.{base_of}
use Rattle.c_program.specs.Weights.{found_in, function_weight}
use Rattle.c_typed_stmt.specs.Weights.{counted}

abbrev pub is_flagged : CType → Base → Bool
is_flagged t b = is_function_of t (Some b) && b.named

-- what a base adds to the count of those that such a call may enter
abbrev pub flag : CType → CodeBase → ℕ
flag t b = cond (is_flagged t (base_of b)) 1 0

abbrev pub flagged : List CodeBase → CType → ℕ
flagged all t = sum (map (flag t) all)

-- the weight by these counts
abbrev pub flagged_weight : TypedProgram → ℕ → ℕ
flagged_weight p base = counted (function_weight (flagged p.bases)) (found_in p.functions base)
