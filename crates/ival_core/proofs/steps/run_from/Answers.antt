use Rattle.std.proofs.Common.{◌≡◌, ◌/◌, ap, sym, ◌∙◌}
use Rattle.std.specs.Int.{w128}
use Rattle.std.specs.Prelude.{FitsSigned}
use Rattle.std.proofs.lemmas.Int.{to_z-of_z}
use Rattle.ival_core.specs.Sets.{apart}
use Rattle.ival_core.specs.Ranges.{run_shape}
use Rattle.ival_core.proofs.RunShapes.{steps_to, run_from-has, run_shape-few, run_shape-many}
use Rattle.ival_core.proofs.steps.run_from.Goals as goal

pub returns-then-more-lt8-clause-value : goal.returns-then-more-lt8-clause-value
returns-then-more-lt8-clause-value c =
    let f : FitsSigned w128 c.args.first = c.ranges.first in
    let g : FitsSigned w128 c.args.high = c.ranges.high in
    let e : c.abs_diff.result / c.args.stride ≡ apart c.args.first c.args.high / c.args.stride = steps_to c.args.first c.args.high c.args.stride c.abs_diff.result (simp to_z-of_z at c.abs_diff.ensures) in
    simp to_z-of_z at c.few_steps.ensures ∙ sym (run_shape-few c.args.first c.args.stride (c.abs_diff.result / c.args.stride) c.if-more-lt8.true) ∙ ap (run_shape c.args.first c.args.stride) e

pub returns-then-more-lt8-clause-numbers : goal.returns-then-more-lt8-clause-numbers
returns-then-more-lt8-clause-numbers c =
    run_from-has c.few_steps.result c.args.first c.args.high c.args.stride c.requires.order c.requires.moves
    (returns-then-more-lt8-clause-value c)

pub returns-else-more-lt8-clause-value : goal.returns-else-more-lt8-clause-value
returns-else-more-lt8-clause-value c =
    let f : FitsSigned w128 c.args.first = c.ranges.first in
    let g : FitsSigned w128 c.args.high = c.ranges.high in
    let e : c.abs_diff.result / c.args.stride ≡ apart c.args.first c.args.high / c.args.stride = steps_to c.args.first c.args.high c.args.stride c.abs_diff.result (simp to_z-of_z at c.abs_diff.ensures) in
    simp to_z-of_z at c.many_steps.ensures ∙ sym (run_shape-many c.args.first c.args.stride (c.abs_diff.result / c.args.stride) c.if-more-lt8.false) ∙ ap (run_shape c.args.first c.args.stride) e

pub returns-else-more-lt8-clause-numbers : goal.returns-else-more-lt8-clause-numbers
returns-else-more-lt8-clause-numbers c =
    run_from-has c.many_steps.result c.args.first c.args.high c.args.stride c.requires.order c.requires.moves
    (returns-else-more-lt8-clause-value c)
