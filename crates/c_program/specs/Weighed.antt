-- A program has so much work at most.
use Rattle.std.specs.Prelude.{◌^◌, ◌≤◌, length}
use Rattle.c_program.specs.declared.program.TypedProgram.{TypedProgram}
use Rattle.c_program.specs.Weights.{total_weight}

pub record IsWeighed (p : TypedProgram) : Type 0 where
  pub weight : total_weight p ≤ 2 ^ 28
  pub statements : length p.statements ≤ 200000
