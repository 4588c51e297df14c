use Rattle.avalue_values.proofs.Values.{meet_answers, meet_answers_first}
use Rattle.avalue_values.proofs.value.AVal.meet.Goals as goal

pub returns-clause-first : goal.returns-clause-first
returns-clause-first c = meet_answers_first c.meet_parts.result c.args.self.now c.args.o.now c.meet_parts.ensures

pub returns-clause-meaning : goal.returns-clause-meaning
returns-clause-meaning c = meet_answers c.meet_parts.result c.args.self.now c.args.o.now c.soundness.ensures c.soundness-2.ensures c.meet_parts.ensures
