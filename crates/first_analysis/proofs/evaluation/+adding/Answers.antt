use Rattle.std.proofs.Common.{◌≡◌, [], drop, refl, subst, ◌∙◌, drop_of_length-le}
use Rattle.c_base.specs.declared.integer.IntKind.TheVariants.{Int}
use Rattle.c_program.specs.Syntax.{Binary}
use Rattle.first_program.specs.SourceViews.{sum_tree}
use Rattle.first_program.specs.Meaning.{sign_op, sum_expr}
use Rattle.first_analysis.specs.Evaluation.{value}
use Rattle.first_analysis.specs.Values.{Gives}
use Rattle.first_analysis.proofs.Sums.{run_on}
use Rattle.first_analysis.proofs.evaluation.+adding.Goals as goal

pub run-loop-addend-init : goal.run-loop-addend-init
run-loop-addend-init t c = λ env left h first. record { so_far = left; gives = first; whole = refl }

pub run-loop-addend-preserved : goal.run-loop-addend-preserved
run-loop-addend-preserved t c = λ env left h first.
    let i = c.loop-addend.invariant env left h first in
    let a = c.addend-item.result in
    record {
      so_far = Binary (sign_op a.sign) Int i.so_far (sum_expr (sum_tree a.operand));
      gives = c.plus-result.ensures _ _ i.gives (c.sum.ensures env h);
      whole = run_on c.args.more.now c.loop-addend.addend-index a i.so_far c.loop-addend-test.true c.addend-item.is ∙ i.whole;
    }

pub run-returns : goal.run-returns
run-returns t c = λ env left h first.
    let i = c.loop-addend.invariant env left h first in
    let none : drop c.loop-addend.addend-index c.args.more.now ≡ [] = drop_of_length-le c.args.more.now c.loop-addend-test.false in
    let whole = rw none at i.whole in
    subst (λ e. Gives c.loop-addend.result (value env e)) whole i.gives
