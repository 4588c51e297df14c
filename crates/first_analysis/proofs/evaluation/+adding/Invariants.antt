use Rattle.std.proofs.Common.{drop}
use Rattle.c_program.specs.Syntax.{Expr}
use Rattle.first_analysis.specs.Evaluation.{Env, value}
use Rattle.first_analysis.specs.Contents.{HoldsRow}
use Rattle.first_analysis.specs.Values.{Gives}
use Rattle.first_analysis.proofs.Sums.{Continues}
use Rattle.first_analysis.proofs.evaluation.+adding.Given as goal

abbrev pub invariant-run-loop-addend : goal.invariant-run-loop-addend
invariant-run-loop-addend l =
    (env : Env) (left : Expr) → HoldsRow l.row env → Gives l.fn.start (value env left) → Continues env left l.more (drop l.addend-index l.more) l.result
