use Rattle.std.proofs.Common.{◌∙◌, ap, sym, ◌+ℤ◌, ◌-ℤ◌}
use Rattle.aops_pointers.specs.Moves.{sum_of}
use Rattle.aops_pointers.proofs.Images.{image_same}
use Rattle.aops_pointers.proofs.moves.sum_of.Goals as goal

pub returns-then-back-clause-value : goal.returns-then-back-clause-value
returns-then-back-clause-value c =
    image_same (λ x y. x -ℤ y) c.exact_sub.result c.args.a.now c.args.b.now c.exact_sub.ensures.stays c.exact_sub.ensures.least c.exact_sub.ensures.leaves ∙ ap (λ t. sum_of t c.args.a.now c.args.b.now) (sym c.if-back.true)

pub returns-else-back-clause-value : goal.returns-else-back-clause-value
returns-else-back-clause-value c =
    image_same (λ x y. x +ℤ y) c.exact_add.result c.args.a.now c.args.b.now c.exact_add.ensures.stays c.exact_add.ensures.least c.exact_add.ensures.leaves ∙ ap (λ t. sum_of t c.args.a.now c.args.b.now) (sym c.if-back.false)
