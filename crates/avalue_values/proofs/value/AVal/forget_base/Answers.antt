use Rattle.avalue_values.proofs.Values.{left_answers}
use Rattle.avalue_values.proofs.value.AVal.forget_base.Goals as goal

pub returns-clause-meaning : goal.returns-clause-meaning
returns-clause-meaning c = left_answers c.left_of.result c.args.base.0 c.args.self.now c.left_of.ensures
