use Rattle.stepper_shapes.proofs.Runs.{comma_at}
use Rattle.stepper_shapes.proofs.expressions.+shapes.Goals as goal

pub comma_shape-returns-in-Some : goal.comma_shape-returns-in-Some
comma_shape-returns-in-Some t c =
    let at = c.in-Some.ensures.lookup in
    comma_at c.as_slice.result.now c.args.before.now c.args.n c.in-Some.field-0.now _ c.as_slice.ensures at.3.0 at.1
