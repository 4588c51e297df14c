use Rattle.std.proofs.Common.{rules}
use Rattle.stepper_shapes.proofs.Runs.{last_taken}
use Rattle.stepper_shapes.proofs.expressions.last_of.Goals as goal

pub returns : goal.returns
returns g c = last_taken c.args.all.now c.args.n _ _ c.at_most-count.ensures.value c.at_most-count.ensures.within (search rules) (search rules)
