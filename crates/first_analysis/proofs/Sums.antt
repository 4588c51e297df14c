-- Runs of additions and subtractions, one addend more at a time.
use Rattle.std.proofs.Common.{◌≡◌, ℕ, suc, ◌+◌, ◌<◌, List, ◌∷◌, length, map, get_or, drop, refl, sym, ap, ◌∙◌}
use Rattle.std.proofs.Math.Seq.{drop-cons}
use Rattle.std.proofs.Math.Numerals.{add-one}
use Rattle.c_base.specs.declared.integer.IntKind.TheVariants.{Int}
use Rattle.c_program.specs.Syntax.{Expr, Binary}
use Rattle.first_program.specs.declared.tree.Addend.{Addend as CodeAddend}
use Rattle.first_program.specs.declared.tree.Sign.{Sign}
use Rattle.first_program.specs.declared.tree.Sum.TheFolds as F
use Rattle.first_program.specs.Source.{Sum}
use Rattle.first_program.specs.SourceViews.{addends, addend_step, addend_tree, sum_step, sum_tree}
use Rattle.first_program.specs.Meaning.{run_expr, sign_op, sum_expr}
use Rattle.first_analysis.specs.Evaluation.{Env, value}
use Rattle.first_analysis.specs.declared.evaluation.Evaluated.{Evaluated}
use Rattle.first_analysis.specs.Values.{Gives}

addend_is : (a : CodeAddend) → addend_tree a ≡ (a.sign, sum_tree a.operand)
addend_is a = F.fold_out-Addend Sum (Sign × Sum) sum_step addend_step a

-- the result so far is that of an expression which, with what is left of the run, is the whole
pub record Continues (env : Env) (left : Expr) (all rest : List CodeAddend) (result : Evaluated) : Type 0 where
  pub so_far : Expr
  pub gives : Gives result (value env so_far)
  pub whole : run_expr so_far (addends (map addend_tree rest)) ≡ run_expr left (addends (map addend_tree all))

pub run_on : (more : List CodeAddend) (i : ℕ) (a : CodeAddend) (e : Expr) → i < length more → a ≡ get_or more i a →
    run_expr (Binary (sign_op a.sign) Int e (sum_expr (sum_tree a.operand))) (addends (map addend_tree (drop (i + 1) more))) ≡ run_expr e (addends (map addend_tree (drop i more)))
run_on more i a e h is =
    let here : drop i more ≡ a ∷ drop (suc i) more = drop-cons more i a h ∙ ap (λ x. x ∷ drop (suc i) more) (sym is) in
    rw (here, addend_is a, add-one) refl
